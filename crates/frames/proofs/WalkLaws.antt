-- One turn of the walk over a book's lines, over plain values: what is left of the book decides the answer.
use Rattle.std.specs.Prelude.{Result, Ok, Err, Option, None, Some}
use mathlib.Core.Path.{◌≡◌, refl, ap, sym, subst, ◌∙◌}
use mathlib.Core.Bool.{Bool, true, false, cond, ◌&&◌}
use mathlib.Core.List.{List, [], ◌∷◌, ◌++◌}
use mathlib.Core.Logic.{◌⊎◌, ⊎_elim, inl, inr, dite}
use Prim.Native.Nat.{ℕ, ◌+◌, ◌-◌, ◌*◌, ◌≤◌, ◌<◌}
use native.Mathlib.Decide.{dec_lt}
use native.Mathlib.Numerals.{add-one}
use native.Mathlib.Omega.{arith}
use lib.Dec.{eqb}
use lib.ListN.{length, take, drop, set, length-set, length-drop, drop_of_length-le}
use lib.Seq.{take-suc-set, take_all, length-take-le}
use borrow.Author.Tests.{eqb-true, ne_eqb}
use Rattle.lines.specs.Digits.{byte_at, frame_of, malformed}
use Rattle.lines.specs.Lines.{Line, ended, lines}
use Rattle.lines.proofs.DigitLaws.{well_long}
use Rattle.lines.proofs.LineLaws.{line_ended, line_unended}
use Rattle.reader.specs.declared.Frame.{Frame}
use Rattle.reader.specs.declared.Frame.TheVariants.{Bytes, Long}
use Rattle.reader.specs.declared.Read.{Read}
use Rattle.reader.specs.Inner.Reading.{line_end, line_of, FrameRead}
use Rattle.reader.proofs.ReadLaws.{read_bytes, read_long, read_malformed}
use Rattle.gate.specs.Gate.{verdict, line_verdict}
use Rattle.gate.specs.declared.Known.{Known}
use Rattle.gate.specs.declared.Fault.{Fault}
use Rattle.gate.specs.declared.Fault.TheVariants.{Malformed, Misplaced}
use Rattle.gate.specs.Gate.{Verdict, Good, Bad}
use Rattle.gate.specs.Inner.Long.{long_fault}
use Rattle.gate.proofs.LongLaws.{long_bad}
use Rattle.sizes.specs.Sizes.{sizes_of}
use Rattle.gate.proofs.PassedLaws.{sizes_passed, edge_passed, rule_passed}
use Rattle.frames.specs.declared.Rule.{Rule}
use Rattle.frames.specs.declared.Query.{Query}
use Rattle.frames.specs.declared.Refusal.TheVariants.{BadLine}
use Rattle.frames.specs.Limits.{plain, all_plain}
use Rattle.frames.specs.Book.{Entered, refused, accepted, contents, nothing, onward, last_fault, walk, enter, rule_of}
use Rattle.frames.specs.Book.{known_after, juniors_after, rules_after, facts_after, query_after}
use Rattle.frames.specs.Inner.Judged.{sized, judged, whole}
use Rattle.frames.proofs.LimitLaws.{plain_more}

-- The state that the reader's locals stand for.
unfoldable pub held : Known → Query → List ℕ → List ℕ → List Rule → Entered
held k q m fs rs = record { known = k; juniors = m; rules = take k.count rs; facts = fs; query = q }

-- The reader's invariant at place i, line l; b says whether all rules so far are plain.
pub record Held (paged : Bool) (book : List ℕ) (k : Known) (q : Query) (m fs : List ℕ) (rs : List Rule) (b : Bool) (i l : ℕ) : Type 0 where
  pub within : i ≤ length book
  pub begun : 1 ≤ l
  pub lined : 3 * l ≤ i + 3
  pub counted : k.count ≤ 512
  pub crewed : k.sizes.crews ≤ 32
  pub edged : length m ≡ 32
  pub roomed : length rs ≡ 512
  pub unmarked : b ≡ all_plain (take k.count rs)
  pub left : walk paged nothing 1 (lines book) ≡ walk paged (held k q m fs rs) l (lines (drop i book))

-- The rules' array after a frame x, and whether all are plain: a rule is stored behind the others.
abbrev Stored : Known → List Rule → Bool → List ℕ → List Rule → Bool → Type 0
Stored k rs b x rs' b' =
    ((byte_at x 0 ≡ 3) × ((rs' ≡ set rs k.count (rule_of x)) × (b' ≡ b && plain (rule_of x))))
    ⊎ ((byte_at x 0 ≡ 3 → ⊥) × ((rs' ≡ rs) × (b' ≡ b)))

-- What the rules' array and its count stand for behind a frame x.
pub record Listed (k : Known) (rs : List Rule) (x : List ℕ) (rs' : List Rule) (b' : Bool) : Type 0 where
  pub same : take (known_after k x).count rs' ≡ rules_after (take k.count rs) x
  pub counted : (known_after k x).count ≤ 512
  pub roomed : length rs' ≡ 512
  pub unmarked : b' ≡ all_plain (take (known_after k x).count rs')

juniors_length : (m x : List ℕ) → length (juniors_after m x) ≡ length m
unfolding juniors_after
juniors_length m x = kept (eqb (byte_at x 0) 2) (byte_at x 1) _
  where
    kept : (b : Bool) (i v : ℕ) → length (cond b (set m i v) m) ≡ length m
    kept true i v = length-set m i v
    kept false i v = refl

-- A passed frame leaves at most 32 crews.
crews_kept : (k : Known) (x : List ℕ) → verdict k x ≡ Good → k.sizes.crews ≤ 32 → (known_after k x).sizes.crews ≤ 32
unfolding known_after
crews_kept k x e h = by_kind (eqb (byte_at x 0) 1) refl
  where
    by_kind : (b : Bool) → eqb (byte_at x 0) 1 ≡ b
        → (cond b (sizes_of x) k.sizes).crews ≤ 32
    by_kind true i = (sizes_passed k x e (eqb-true _ 1 i)).crews_most
    by_kind false i = h

-- A passed edge's senior and junior are two of 32 crews.
pub edge_small : (k : Known) (x : List ℕ) → verdict k x ≡ Good → k.sizes.crews ≤ 32 → byte_at x 0 ≡ 2 → (byte_at x 1 < 32) × (byte_at x 2 < 32)
edge_small k x e h is = let p = edge_passed k x e is in (omega (arith, p.0), omega (arith, p.0, p.1))

-- Behind a rule's frame one rule more is counted, and nothing else is known.
pub rule_counted : (k : Known) (x : List ℕ) → byte_at x 0 ≡ 3
    → record { headed = k.headed; asked = k.asked; sizes = k.sizes; count = k.count + 1 } ≡ known_after k x
unfolding known_after
rule_counted k x is = rw is refl

-- What a frame of another kind leaves as it was.
module _ (x : List ℕ) where
  known_kept : (k : Known) → (byte_at x 0 ≡ 1 → ⊥) → (byte_at x 0 ≡ 3 → ⊥) → (byte_at x 0 ≡ 5 → ⊥) → k ≡ known_after k x
  unfolding known_after
  known_kept k one three five = rw (ne_eqb _ _ one, ne_eqb _ _ three, ne_eqb _ _ five) refl

  query_kept : (q : Query) → (byte_at x 0 ≡ 5 → ⊥) → q ≡ query_after q x
  unfolding query_after
  query_kept q five = rw (ne_eqb _ _ five) refl

  juniors_kept : (m : List ℕ) → (byte_at x 0 ≡ 2 → ⊥) → m ≡ juniors_after m x
  unfolding juniors_after
  juniors_kept m two = rw (ne_eqb _ _ two) refl

  facts_kept : (fs : List ℕ) → (byte_at x 0 ≡ 4 → ⊥) → fs ≡ facts_after fs x
  unfolding facts_after
  facts_kept fs four = rw (ne_eqb _ _ four) refl

-- What entering a frame does to the rules and to their count.
module _ (k : Known) (rs : List Rule) (b : Bool) (x : List ℕ) (rs' : List Rule) (b' : Bool) (room : length rs ≡ 512)
    (unmarked : b ≡ all_plain (take k.count rs)) where
  rules_rule : k.count < 512 → byte_at x 0 ≡ 3 → rs' ≡ set rs k.count (rule_of x) → b' ≡ b && plain (rule_of x) → Listed k rs x rs' b'
  unfolding known_after rules_after
  rules_rule h is e f =
      let same : take (k.count + 1) rs' ≡ take k.count rs ++ (rule_of x ∷ []) =
      rw (e, add-one, take-suc-set rs k.count (rule_of x) (omega arith)) refl in
      record {
        same = rw is same;
        counted = rw is (omega arith);
        roomed = ap length e ∙ length-set rs k.count (rule_of x) ∙ room;
        unmarked = rw (is, same) (f ∙ plain_more (take k.count rs) (rule_of x) b unmarked);
      }

  rules_other : k.count ≤ 512 → (byte_at x 0 ≡ 3 → ⊥) → rs' ≡ rs → b' ≡ b → Listed k rs x rs' b'
  unfolding known_after rules_after
  rules_other h other e f =
      record {
        same = rw (ne_eqb _ _ other, e) refl;
        counted = rw (ne_eqb _ _ other) h;
        roomed = ap length e ∙ room;
        unmarked = rw (ne_eqb _ _ other, e) (f ∙ unmarked);
      }

module _ (paged : Bool) (s : Entered) (l : ℕ) (x : List ℕ) (ls : List Line) where
  walk_on : malformed x ≡ false → verdict s.known (frame_of x) ≡ Good → walk paged s l (ended x ∷ ls) ≡ walk paged (enter s (frame_of x)) (l + 1) ls
  unfolding walk line_verdict
  walk_on m e = rw (m, e) refl

  walk-bad : (f : Fault) → malformed x ≡ false → verdict s.known (frame_of x) ≡ Bad f → walk paged s l (ended x ∷ ls) ≡ refused (BadLine f l)
  unfolding walk line_verdict
  walk-bad f m e = rw (m, e) refl

  walk-malformed : malformed x ≡ true → walk paged s l (ended x ∷ ls) ≡ refused (BadLine Malformed l)
  unfolding walk line_verdict
  walk-malformed m = rw m refl

never : (n : ℕ) (f : Fault) → ◌≡◌ {A = Result ℕ Fault} (Ok n) (Err f) → ⊥
never n f e = cc

-- The characters of the line at place i.
abbrev line : List ℕ → ℕ → List ℕ
line book i = line_of book i (line_end book i)

-- The line at place i is ended, and x is its frame.
pub record Framed (book : List ℕ) (i : ℕ) (x : List ℕ) : Type 0 where
  pub ended : line_end book i < length book
  pub well : malformed (line book i) ≡ false
  pub frame : x ≡ frame_of (line book i)

module _ {paged : Bool} {book : List ℕ} {k : Known} {q : Query} {m fs : List ℕ} {rs : List Rule} {b : Bool} {i l : ℕ}
    (inv : Held paged book k q m fs rs b i l) where
  -- The end of the book without a query; and behind one, where the verdict on the whole decides.
  pub at_end-bad : length book ≤ i → k.asked ≡ false → refused (BadLine Misplaced l) ≡ walk paged nothing 1 (lines book)
  unfolding walk held lines
  at_end-bad h is = sym (inv.left ∙ rw (drop_of_length-le book {i = i} h, is) refl)

  at_end : length book ≤ i → k.asked ≡ true
      → onward (whole paged (take k.count rs) q.mode) (l - 1) (accepted (contents (held k q m fs rs))) ≡ walk paged nothing 1 (lines book)
  unfolding walk held lines last_fault
  at_end h is = sym (inv.left ∙ rw (drop_of_length-le book {i = i} h, is) refl)

  pub at_end-whole : length book ≤ i → k.asked ≡ true → (f : Fault) → whole paged (take k.count rs) q.mode ≡ Bad f
      → refused (BadLine f (l - 1)) ≡ walk paged nothing 1 (lines book)
  at_end-whole h is f e = ap (λ (v : Verdict). onward v (l - 1) (accepted (contents (held k q m fs rs)))) (sym e) ∙ at_end h is

  pub at_end-good : length book ≤ i → k.asked ≡ true → whole paged (take k.count rs) q.mode ≡ Good
      → accepted (contents (held k q m fs rs)) ≡ walk paged nothing 1 (lines book)
  at_end-good h is e = ap (λ (v : Verdict). onward v (l - 1) (accepted (contents (held k q m fs rs)))) (sym e) ∙ at_end h is

  -- The line at i: unended, malformed, bad, or good.
  unended_bad : i < length book → length book ≤ line_end book i → refused (BadLine Malformed l) ≡ walk paged nothing 1 (lines book)
  unfolding walk
  unended_bad h o = sym (inv.left ∙ rw (line_unended book i (line_end book i) refl h o) refl)

  line_malformed : line_end book i < length book → malformed (line book i) ≡ true → refused (BadLine Malformed l) ≡ walk paged nothing 1 (lines book)
  line_malformed h ill =
      sym (inv.left
      ∙ (ap (walk paged (held k q m fs rs) l) (line_ended book i (line_end book i) refl h) ∙ walk-malformed paged (held k q m fs rs) l _ _ ill))

  module _ {x : List ℕ} (p : Framed book i x) where
    pub line-bad : (f : Fault) → verdict k x ≡ Bad f → refused (BadLine f l) ≡ walk paged nothing 1 (lines book)
    unfolding held
    line-bad f v =
        sym (inv.left ∙ (ap (walk paged (held k q m fs rs) l) (line_ended book i (line_end book i) refl p.ended)
        ∙ walk-bad paged (held k q m fs rs) l _ _ f p.well (ap (verdict k) (sym p.frame) ∙ v)))

    module _ (good : verdict k x ≡ Good) where
      line-good : (k' : Known) (q' : Query) (m' fs' : List ℕ) (rs' : List Rule) (b' : Bool)
          → k' ≡ known_after k x → q' ≡ query_after q x → m' ≡ juniors_after m x → fs' ≡ facts_after fs x → Stored k rs b x rs' b'
          → Held paged book k' q' m' fs' rs' b' (line_end book i + 1) (l + 1)
      unfolding held enter
      line-good k' q' m' fs' rs' b' ek eq em ef st =
          let h = p.ended in
          let rules : Listed k rs x rs' b' =
          ⊎_elim (λ w. rules_rule k rs b x rs' b' inv.roomed inv.unmarked (rule_passed k x good w.0).1.1 w.0 w.1.0 w.1.1)
          (λ w. rules_other k rs b x rs' b' inv.roomed inv.unmarked inv.counted w.0 w.1.0 w.1.1) st in
          record {
            within = omega arith;
            begun = omega arith;
            lined =
                let size = length-take-le (line_end book i - i) (drop i book) (omega (arith, h, length-drop i book)) in
                omega (arith, inv.lined, size, well_long (line book i) p.well);
            counted = rw ek rules.counted;
            crewed = rw ek (crews_kept k x good inv.crewed);
            edged = ap length em ∙ juniors_length m x ∙ inv.edged;
            roomed = rules.roomed;
            unmarked = rw ek rules.unmarked;
            left = inv.left ∙ ap (walk paged (held k q m fs rs) l) (line_ended book i (line_end book i) refl h)
                ∙ walk_on paged (held k q m fs rs) l (line book i) (lines (drop (line_end book i + 1) book)) p.well
                (ap (verdict k) (sym p.frame) ∙ good)
                ∙ ap (λ (w : List ℕ). walk paged (enter (held k q m fs rs) w) (l + 1) (lines (drop (line_end book i + 1) book))) (sym p.frame)
                ∙ rw (ek, eq, em, ef, rules.same) refl;
          }

      -- The same by the frame's kind: only what its kind enters has changed.
      pub edge-good : {m' : List ℕ} → byte_at x 0 ≡ 2 → m' ≡ juniors_after m x → Held paged book k q m' fs rs b (line_end book i + 1) (l + 1)
      edge-good {m'} kind em =
          line-good k q m' fs rs b (known_kept x k (λ z. omega arith) (λ z. omega arith) (λ z. omega arith)) (query_kept x q (λ z. omega arith)) em
          (facts_kept x fs (λ z. omega arith)) (inr ((λ z. omega arith), (refl, refl)))

      pub fact-good : {fs' : List ℕ} → byte_at x 0 ≡ 4 → fs' ≡ facts_after fs x → Held paged book k q m fs' rs b (line_end book i + 1) (l + 1)
      fact-good {fs'} kind ef =
          line-good k q m fs' rs b (known_kept x k (λ z. omega arith) (λ z. omega arith) (λ z. omega arith)) (query_kept x q (λ z. omega arith))
          (juniors_kept x m (λ z. omega arith)) ef (inr ((λ z. omega arith), (refl, refl)))

      pub rule_good_lem : {k' : Known} {rs' : List Rule} {b' : Bool} → byte_at x 0 ≡ 3 → k' ≡ known_after k x → rs' ≡ set rs k.count (rule_of x)
          → b' ≡ b && plain (rule_of x) → Held paged book k' q m fs rs' b' (line_end book i + 1) (l + 1)
      rule_good_lem {k'} {rs'} {b'} kind ek er eb =
          line-good k' q m fs rs' b' ek (query_kept x q (λ z. omega arith)) (juniors_kept x m (λ z. omega arith))
          (facts_kept x fs (λ z. omega arith)) (inl (kind, (er, eb)))

      pub other-good : {k' : Known} {q' : Query} → (byte_at x 0 ≡ 2 → ⊥) → (byte_at x 0 ≡ 4 → ⊥) → (byte_at x 0 ≡ 3 → ⊥)
          → k' ≡ known_after k x → q' ≡ query_after q x → Held paged book k' q' m fs rs b (line_end book i + 1) (l + 1)
      other-good {k'} {q'} two four three ek eq =
          line-good k' q' m fs rs b ek eq (juniors_kept x m two) (facts_kept x fs four) (inr (three, (refl, refl)))

  module _ {before : List ℕ} {r : Read} {after : List ℕ} (p : FrameRead book (record { at = i; line = l }) before r after) where
    -- A frame was read of the line at i: the line is ended, and the reader's next place is behind its 0A.
    pub line-framed : {n : ℕ} → r.frame ≡ Some (Bytes n) → Framed book i (take n after)
    line-framed e = let read = read_bytes p e in record { ended = read.0; well = read.1.0; frame = read.1.1.front }

    pub line-less : {n : ℕ} → r.frame ≡ Some (Bytes n) → i < length book → length book - r.next.at < length book - i
    line-less e h = rw p.next (omega (arith, (read_bytes p e).0, h))

    -- Only the front of its frame was read: no frame as long is good.
    pub long-refused : {n : ℕ} → r.frame ≡ Some (Long n) → length after ≡ 64 → refused (BadLine (long_fault k after n) l) ≡ walk paged nothing 1 (lines book)
    long-refused {n} e size =
        let read = read_long p e in
        let front = read.1.1 in
        let x = frame_of (line book i) in
        let kept : take 64 x ≡ after = sym front.front ∙ take_all 64 after (omega (arith, size)) in
        let same : long_fault k (take 64 x) (length x) ≡ long_fault k after n =
        ap (λ (w : List ℕ). long_fault k w (length x)) kept ∙ ap (long_fault k after) (sym front.count) in
        line-bad (record { ended = read.0; well = read.1.0; frame = refl }) _
        (long_bad k x (omega (arith, front.over, front.count)) ∙ ap Bad same)

    -- No frame was read of it: it is unended or malformed.
    pub unread-bad : i < length book → r.frame ≡ None → refused (BadLine Malformed l) ≡ walk paged nothing 1 (lines book)
    unread-bad h none =
        dite (dec_lt (line_end book i) (length book)) (λ (k : line_end book i < length book). line_malformed k (read_malformed p none k))
        (λ (k : line_end book i < length book → ⊥). unended_bad h (omega (arith, k)))

    -- What the line is judged to be: bad by a fault, or good, and then its frame was read.
    pub judged-bad : (f : Fault) → judged k r.frame after ≡ Err f → length after ≡ 64 → i < length book
        → refused (BadLine f l) ≡ walk paged nothing 1 (lines book)
    judged-bad f e size h = by-frame r.frame refl e
      where
        by_verdict : (n : ℕ) → r.frame ≡ Some (Bytes n) → (v : Verdict) → verdict k (take n after) ≡ v → sized n v ≡ Err f
            → refused (BadLine f l) ≡ walk paged nothing 1 (lines book)
        by_verdict n w (Ok tt) is g = absurd (never n f g)
        by_verdict n w (Err x) is g = line-bad (line-framed w) f (is ∙ g_of x g)
          where
            g_of : (x : Fault) → sized n (Err x) ≡ Err f → Bad x ≡ Bad f
            g_of x g = let same : x ≡ f = cc in ap Bad same

        by-frame : (w : Option Frame) → r.frame ≡ w → judged k w after ≡ Err f → refused (BadLine f l) ≡ walk paged nothing 1 (lines book)
        by-frame None w g = let same : Malformed ≡ f = cc in ap (λ (x : Fault). refused (BadLine x l)) (sym same) ∙ unread-bad h w
        by-frame (Some (Bytes n)) w g = by_verdict n w (verdict k (take n after)) refl g
        by-frame (Some (Long n)) w g =
            let same : long_fault k after n ≡ f = cc in ap (λ (x : Fault). refused (BadLine x l)) (sym same) ∙ long-refused w size

    pub judged-good : (n : ℕ) → judged k r.frame after ≡ Ok n → (r.frame ≡ Some (Bytes n)) × (verdict k (take n after) ≡ Good)
    judged-good n e = by-frame r.frame refl e
      where
        by_verdict : (j : ℕ) → r.frame ≡ Some (Bytes j) → (v : Verdict) → verdict k (take j after) ≡ v → sized j v ≡ Ok n
            → (r.frame ≡ Some (Bytes n)) × (verdict k (take n after) ≡ Good)
        by_verdict j w (Ok tt) is g =
            let same : j ≡ n = cc in
            subst (λ (x : ℕ). (r.frame ≡ Some (Bytes x)) × (verdict k (take x after) ≡ Good)) same (w, is)
        by_verdict j w (Err x) is g = absurd (never n x (sym g))

        by-frame : (w : Option Frame) → r.frame ≡ w → judged k w after ≡ Ok n → (r.frame ≡ Some (Bytes n)) × (verdict k (take n after) ≡ Good)
        by-frame None w g = absurd (never n Malformed (sym g))
        by-frame (Some (Bytes j)) w g = by_verdict j w (verdict k (take j after)) refl g
        by-frame (Some (Long j)) w g = absurd (never n (long_fault k after j) (sym g))
