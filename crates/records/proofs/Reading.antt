-- A field is where memory says it is.
use Rattle.std.proofs.Common.{◌≡◌, ℕ, zero, suc, List, ◌∷◌, sym, ap, arith}
use Rattle.std.proofs.lemmas.Bool.{ne_eqb}
use Rattle.language.specs.Text.{text}
use Rattle.language.specs.Meaning.{State, got, field_got}
use Rattle.regions.specs.Parts.{Parts}
use Rattle.lines.proofs.Holding.{nth_right}
use Rattle.interp.specs.declared.registers.Registers.{Registers}
use Rattle.interp.specs.Fields.{field_place, bytes_in}
use Rattle.records.specs.Records.{Current}

pub field_read : (m : Parts) (r : Registers) (s : State) (k : ℕ) (ks : List ℕ) → Current m r s.line s.parts →
    field_got s (k ∷ ks) ≡ got (text (bytes_in m (field_place m.fields r.line k))) s
unfolding field_got field_place
field_read m r s zero ks c = ap (λ x. got (text x) s) (sym c.holds.bytes)
field_read m r s (suc k) ks c =
    rw (ne_eqb (suc k) 0 (λ e. omega arith))
    (ap (λ x. got (text x) s) (sym (nth_right m r.line s.line s.parts (suc k) c.sound (omega (arith, c.holds.whole, c.in_place.within)) c.holds)))
