-- An array of records that is a field of a record by `denote.Struct.Field`'s `array_field`, as one that names a lifetime is: the
-- field's relation is over the records' tuples, and is the array's own relation over the records. So what a function copies out of
-- the field it can use as any array. By `row_field`, as any other array is, the field is at the array's own row already.
-- It says nothing of any crate.
--     array_of_field       from the field's relation (one of `denote.Struct.Laws`'s `owed`) to that of `[T; n]`
-- Assumes nothing.
use mathlib.Core.Path.{sym, ◌∙◌}
use Prim.Native.Nat.{ℕ}
use mathlib.Core.List.{List, [], ◌∷◌, map}
use lib.ListN.{length-map}
use mir.Val.{Val}
use denote.Laws.{Is}
use denote.Shadow.{shadow}
use denote.Array.{Array, each}
use denote.Struct.Struct.{Struct}
use denote.Struct.Declared.{Declared, shape, row}

module _ (T : Declared) where
  eachs : (xs : List T.D) (us : List Val)
      → shadow (each (Struct (shape T)).Denot (Struct (shape T)).own_val (map T.to xs) us) → shadow (each T.D (row T).own_val xs us)
  eachs [] [] e = e
  eachs [] (u ∷ us) e = e
  eachs (x ∷ xs) [] e = e
  eachs (x ∷ xs) (u ∷ us) e = (e.0, eachs xs us e.1)

  pub array_of_field : (n : ℕ) (xs : List T.D) (vs : List Val) → Is (Array (Struct (shape T)) n) (map T.to xs) vs → Is (Array (row T) n) xs vs
  array_of_field n xs vs e = (e.0, ((e.1.0.0, sym (length-map xs T.to) ∙ e.1.0.1), eachs xs e.0 e.1.1))
