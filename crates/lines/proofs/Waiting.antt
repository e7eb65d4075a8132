-- The waiting bytes: what a scan, a piece and the end make of them.
use Rattle.std.proofs.Common.{◌≡◌, ℕ, ◌+◌, ◌-◌, min, true, false, List, [], ◌∷◌, length, take, drop, sym, refl, ap, ◌∙◌, inl, inr, arith, Some, None}
use Rattle.std.proofs.lemmas.List.{take-take, take_all}
use Rattle.std.proofs.lemmas.Bool.{cases_lt}
use Rattle.language.specs.Text.{pick, none_of}
use Rattle.store.specs.Words.{unpacked, window}
use Rattle.lines.specs.declared.input.Input.{Input}
use Rattle.lines.specs.Cutting.{fresh_cut}
use Rattle.lines.specs.Scanning.{Scanned, input_of, line_at, after_scan, found_of}
use Rattle.lines.proofs.Passing.{window_length}

-- a window that is as long as there are bytes
pub window_all : (f m k : ℕ) (ws : List ℕ) → length ws ≡ 25088 → k ≡ min m (200704 - f) → window f k ws ≡ window f m ws
window_all f m k ws e h =
    let l = window_length f m ws e in
    sym (take-take k m (drop f (unpacked ws)) (omega arith)) ∙ take_all k (window f m ws) (omega arith)

pub after_found : (i : Input) (s : Scanned) → s.found ≡ true → after_scan i s ≡ input_of (i.from + s.cuts.cut.at + 1) i.to fresh_cut i.ended
unfolding after_scan
after_found i s e = ap (λ t. pick t (input_of (i.from + s.cuts.cut.at + 1) i.to fresh_cut i.ended) (input_of i.from i.to s.cuts.cut i.ended)) e

pub after_part : (i : Input) (s : Scanned) → s.found ≡ false → after_scan i s ≡ input_of i.from i.to s.cuts.cut i.ended
unfolding after_scan
after_part i s e = ap (λ t. pick t (input_of (i.from + s.cuts.cut.at + 1) i.to fresh_cut i.ended) (input_of i.from i.to s.cuts.cut i.ended)) e

pub found_whole : (i : Input) (s : Scanned) → s.found ≡ true → found_of i s ≡ Some (line_at i.from s.cuts.cut.at s.cuts.cut.fields)
unfolding found_of
found_whole i s e = ap (λ t. pick t (Some (line_at i.from s.cuts.cut.at s.cuts.cut.fields)) None) e

pub found_part : (i : Input) (s : Scanned) → s.found ≡ false → found_of i s ≡ None
unfolding found_of
found_part i s e = ap (λ t. pick t (Some (line_at i.from s.cuts.cut.at s.cuts.cut.fields)) None) e

-- no more than there are
pub take_min : (n k : ℕ) (xs : List ℕ) → k ≡ min (length xs) n → take k xs ≡ take n xs
take_min n k xs e =
    elim (cases_lt n (length xs)) [
      | inl h ↦ let f : k ≡ n = omega arith in ap (λ j. take j xs) f
      | inr h ↦ take_all k xs (omega arith) ∙ sym (take_all n xs h)
    ]

pub none_there : (xs : List ℕ) → length xs ≡ 0 → none_of xs ≡ true
none_there [] e = refl
none_there (x ∷ xs) e = absurd (omega arith)

pub some_there : (xs : List ℕ) → (length xs ≡ 0 → ⊥) → none_of xs ≡ false
some_there [] e = absurd (e refl)
some_there (x ∷ xs) e = refl
