-- A line that is put together leaves the texts alone.
use Rattle.std.proofs.Common.{◌≡◌, ℕ, ◌+◌, Bool, true, false, leb, List, [], ◌∷◌, refl}
use Rattle.language.specs.Text.{pick}
use Rattle.regions.specs.Parts.{Parts}
use Rattle.lines.specs.declared.line.Line.{Line}
use Rattle.lines.specs.declared.building.Piece.{Piece}
use Rattle.lines.specs.Building.{total, all_pieces, laid, laid_one, after_built, buffer_of}

laid_texts : (xs : List Piece) (p : Parts) (b i at : ℕ) → (laid p b i at xs).texts ≡ p.texts
unfolding laid
laid_texts [] p b i at = refl
laid_texts (x ∷ xs) p b i at = laid_texts xs (laid_one p b i at x) b (i + 1) (at + (x.room + 1))

pub built_texts : (p : Parts) (l : Line) (n k : ℕ) → (after_built p l n k).texts ≡ p.texts
unfolding after_built
built_texts p l n k = by (leb (total (all_pieces p.fields l n k)) 65536)
  where
    by : (b : Bool) → (pick b (laid p (buffer_of l) 0 0 (all_pieces p.fields l n k)) p).texts ≡ p.texts
    by true = laid_texts (all_pieces p.fields l n k) p (buffer_of l) 0 0
    by false = refl
