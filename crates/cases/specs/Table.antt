-- The table of the paper's marked examples, and of three books that only grow. Paper 01, "Marked examples for the definitions": "One
-- person, one attribute, values 0 and 1, no crews but those named, all roles, terms by kind 01, unless said."
use Rattle.std.specs.Prelude.{List, [], ◌∷◌}
use Rattle.cases.specs.Claims.{Row, reaches, no_way, shows, unchanged, deletes}

-- D1: "the book above"
unfoldable pub d1 : Row
d1 =
    record {
      book = "0101010102" ∷ "030100000100" ∷ "030501000001010001" ∷ "0402000000" ∷ "050100000301000001" ∷ [];
      claim = reaches ("0100000001" ∷ "0501000000" ∷ []);
    }

-- D2: "the same with roles 0001: no way"
unfoldable pub d2 : Row
d2 =
    record {
      book = "0101010102" ∷ "030100000100" ∷ "030501000001010001" ∷ "0402000000" ∷ "050100000101000001" ∷ [];
      claim = no_way;
    }

-- D3: "holds 0 and 1, deleting each needs the other, mode 02 with empty sets: no way"
unfoldable pub d3 : Row
d3 =
    record {
      book = "0101000102" ∷ "030200000001010001" ∷ "030200000101010000" ∷ "0401000000" ∷ "0401000001" ∷ "050200FFFF0100000000000000" ∷ [];
      claim = no_way;
    }

-- D4: "as D3, exactly {1}: one deletion"
unfoldable pub d4 : Row
d4 =
    record {
      book = "0101000102" ∷ "030200000001010001" ∷ "030200000101010000" ∷ "0401000000" ∷ "0401000001" ∷ "050200FFFF0100000200000000" ∷ [];
      claim = reaches ("0200000000" ∷ []);
    }

-- D5: "as D3 but deleting 1 needs no term, empty sets: 0, then 1"
unfoldable pub d5 : Row
d5 =
    record {
      book = "0101000102" ∷ "030200000001010001" ∷ "030200000100" ∷ "0401000000" ∷ "0401000001" ∷ "050200FFFF0100000000000000" ∷ [];
      claim = reaches ("0200000000" ∷ "0200000001" ∷ []);
    }

-- D6: "holds none, both may be added, no deletions, exactly {0}: one addition"
unfoldable pub d6 : Row
d6 =
    record {
      book = "0101000102" ∷ "030100000000" ∷ "030100000100" ∷ "050200FFFF0100000100000000" ∷ [];
      claim = reaches ("0100000000" ∷ []);
    }

-- D7: "q = 0, mode 01: an empty plan"
unfoldable pub d7 : Row
d7 = record { book = "0101000102" ∷ "050100FFFF00" ∷ []; claim = reaches [] }

-- D8: "holds none, 0 wanted, adding 0 needs 0: no way"
unfoldable pub d8 : Row
d8 = record { book = "0101000102" ∷ "030100000001010000" ∷ "050100FFFF01000001" ∷ []; claim = no_way }

-- D9: "deleting 0 needs 0, empty set wanted, 0 held: one deletion"
unfoldable pub d9 : Row
d9 =
    record {
      book = "0101000102" ∷ "030200000001010000" ∷ "0401000000" ∷ "050200FFFF0100000000000000" ∷ [];
      claim = reaches ("0200000000" ∷ []);
    }

-- D10: "in senior crew 1, junior crew 0 holds 0: effective"
unfoldable pub d10_senior : Row
d10_senior = record { book = "0101020102" ∷ "020100" ∷ "0403000100" ∷ "0402000000" ∷ "050100FFFF01000001" ∷ []; claim = shows 0b01 0b11 }

-- D10: "in crew 0, crew 1 holds 0: not"
unfoldable pub d10_junior : Row
d10_junior = record { book = "0101020102" ∷ "020100" ∷ "0403000000" ∷ "0402010000" ∷ "050100FFFF01000001" ∷ []; claim = shows 0b00 0b01 }

-- D11: "remove from a crew held only through a senior, rule present: permitted, ledger equal"
unfoldable pub d11 : Row
d11 =
    record {
      book = "0101020102" ∷ "020100" ∷ "030600000000" ∷ "0403000100" ∷ "050200FFFF0000000000" ∷ [];
      claim = unchanged "0600000000" 0b00 0b11;
    }

-- D12: "delete a value that is also inherited: still effective"
unfoldable pub d12 : Row
d12 =
    record {
      book = "0101010102" ∷ "030200000000" ∷ "0401000000" ∷ "0403000000" ∷ "0402000000" ∷ "050200FFFF0100000000000001" ∷ [];
      claim = deletes "0200000000" 0b01 0b01;
    }

unfoldable pub table : List Row
table = d1 ∷ d2 ∷ d3 ∷ d4 ∷ d5 ∷ d6 ∷ d7 ∷ d8 ∷ d9 ∷ d10_senior ∷ d10_junior ∷ d11 ∷ d12 ∷ []

-- ---------------------------------------------------------------- books that only grow

-- Paper 02, wish 6, "may join customs if not in returns": crew 1 is customs, crew 0 returns, which anybody may join; both are wanted, in
-- mode 03. Customs first.
unfoldable pub customs : Row
customs =
    record {
      book = "0101020102" ∷ "030500010001830000" ∷ "030500000000" ∷ "05030000010000000003" ∷ [];
      claim = reaches ("0500000100" ∷ "0500000000" ∷ []);
    }

-- Who is in returns at the start never joins customs, since nobody is removed.
unfoldable pub customs_late : Row
customs_late =
    record {
      book = "0101020102" ∷ "030500010001830000" ∷ "030500000000" ∷ "0403000000" ∷ "05030000010000000002" ∷ [];
      claim = no_way;
    }

-- Value 0 for who lacks 1, and 1 for who lacks 0: nobody comes to hold both.
unfoldable pub each_without : Row
each_without =
    record {
      book = "0101000102" ∷ "030100000001810001" ∷ "030100000101810000" ∷ "05030000010100000300000000" ∷ [];
      claim = no_way;
    }

unfoldable pub growing_table : List Row
growing_table = customs ∷ customs_late ∷ each_without ∷ []
