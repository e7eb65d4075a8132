-- A print that goes on over several rows. Assumes nothing: these are definitions; the laws are proved.
use Rattle.std.specs.Prelude.{◌≡◌, ℕ, ◌+◌, ◌-◌, ◌<◌, ◌≤◌, false, List, [], ◌∷◌, ◌++◌, length, take, drop}
use Rattle.store.specs.declared.cells.Value.{Value}
use Rattle.rows.specs.Rows.{run, over_row, went}

-- what is lent for a row, and how many of its bytes are used
pub record Row : Type 0 where
  pub bytes : List ℕ
  pub used : ℕ

-- the row when the print of p went on in it from byte `done` on
abbrev pub after : List ℕ → ℕ → Row → Row
after p done r = record { bytes = over_row r.bytes r.used (drop done p); used = (went p done r.used).used }

-- what stands in the second row between what the first had used and what the second has
abbrev pub new_in : Row → Row → List ℕ
new_in r s = take (s.used - r.used) (drop r.used s.bytes)

-- what a print of p that goes on from byte `done` puts into one row after the other, all of it in that order
unfoldable pub all_new : List ℕ → ℕ → List Row → List ℕ
all_new p done [] = []
all_new p done (r ∷ rs) = new_in r (after p done r) ++ all_new p (went p done r.used).done rs

-- how many bytes of p are out after these rows
unfoldable pub done_by : List ℕ → ℕ → List Row → ℕ
done_by p done [] = done
done_by p done (r ∷ rs) = done_by p (went p done r.used).done rs

-- each is long enough for a row
abbrev pub Wide : List Row → Type 0
Wide [] = Unit {0}
Wide (r ∷ rs) = (4096 ≤ length r.bytes) × Wide rs

-- each has room for a byte
abbrev pub Roomy : List Row → Type 0
Roomy [] = Unit {0}
Roomy (r ∷ rs) = (r.used < 4096) × Roomy rs

pub record PrintLaws : Type 0 where
  -- what is in the rows is what is out, in order
  pub in_order : (p : List ℕ) (done : ℕ) (rs : List Row) → Wide rs → done ≤ length p → take done p ++ all_new p done rs ≡ take (done_by p done rs) p
  -- a print that is finished put all of its bytes, each once
  pub whole : (p : List ℕ) (rs : List Row) → Wide rs → length p ≤ done_by p 0 rs → all_new p 0 rs ≡ p
  -- with room for a byte, a print gets on
  pub gets_on : (p : List ℕ) (done used : ℕ) → used < 4096 → (went p done used).finished ≡ false → done < (went p done used).done
  -- so it is finished after enough rows
  pub ends : (p : List ℕ) (rs : List Row) → Roomy rs → length p ≤ length rs → length p ≤ done_by p 0 rs
  -- what a row had is kept, and so is what lies behind it
  pub keeps : (p : List ℕ) (done : ℕ) (r : Row) → take r.used (after p done r).bytes ≡ take r.used r.bytes
  pub keeps_behind : (p : List ℕ) (done : ℕ) (r : Row) → 4096 ≤ length r.bytes → drop (after p done r).used (after p done r).bytes ≡ drop (after p done r).used r.bytes
  -- values that are all on the stack are a part of it
  pub on_stack : (cs : List Value) (i n : ℕ) → i + n ≤ length cs → run cs i n ≡ take n (drop i cs)
