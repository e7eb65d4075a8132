-- How many bytes of a kind a text begins with.
use Rattle.std.specs.Prelude.{◌≡◌, ℕ, suc, ◌<◌, ◌≤◌, Bool, true, false, ◌&&◌, List, [], ◌∷◌, length, take, Some, None, Option, ◌==◌, nat_le, nat_lt, slice_index}
use Rattle.language.specs.Text.{pick, every, digit, leading}

-- how many bytes that pass the test stand at the beginning of a text
unfoldable pub run : (ℕ → Bool) → List ℕ → ℕ
run p [] = 0
run p (c ∷ cs) = pick (p c) (suc (run p cs)) 0

-- a run is as long as it can be: its bytes pass the test, and the byte behind it, if there is one, doesn't
abbrev pub Runs : Type 0
Runs = (p : ℕ → Bool) (s : List ℕ) → (run p s ≤ length s) × (every p (take (run p s) s) ≡ true) × (run p s < length s → p (slice_index s (run p s)) ≡ false)

-- 1 if a text begins with a minus, otherwise 0
unfoldable pub dash : List ℕ → ℕ
dash [] = 0
dash (c ∷ cs) = pick (c == 45) 1 0

-- what a text of 1 to 18 digits and nothing else is worth
unfoldable pub plain : List ℕ → Option ℕ
plain s = pick (nat_lt 0 (length s) && (nat_le (length s) 18 && run digit s == length s)) (Some (leading 0 (take 18 s))) None
