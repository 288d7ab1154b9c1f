-- Quoted text as a book's characters and as a request's bytes.
use Rattle.std.specs.Prelude.{ℕ, List, [] as []ᴸ, ◌∷◌ as ◌∷ᴸ◌, ◌++◌}
use Prim.Native.Char.{code}
use Prim.Native.String.{String, [], ◌∷◌}
use Rattle.lines.specs.Digits.{frame_of}

-- The characters of a text, each by its number.
unfoldable pub codes : String → List ℕ
codes [] = []ᴸ
codes (c ∷ cs) = code c ∷ᴸ codes cs

-- A book's characters, from its lines: "each line ended by byte 0A".
unfoldable pub written : List String → List ℕ
written []ᴸ = []ᴸ
written (x ∷ᴸ xs) = codes x ++ 10 ∷ᴸ written xs

-- The five bytes of a request that is written as the program prints it, ten digits on a line.
unfoldable pub five : String → List ℕ
five x = frame_of (codes x)

-- The bytes of a list of requests.
unfoldable pub fives_of : List String → List ℕ
fives_of []ᴸ = []ᴸ
fives_of (x ∷ᴸ xs) = five x ++ fives_of xs
