use Rattle.std.proofs.Common.{◌≡◌, ℕ, ℤ, Option, sym, ap, ◌∙◌, w64, to_z, of_z, rules}
use Rattle.language.specs.Text.{number_of}
use Rattle.language.specs.Meaning.{State, exit_with}
use Rattle.store.specs.Numbers.{number}
use Rattle.store.specs.declared.cells.Value.{Value}
use Rattle.values.specs.Fields
use Rattle.regions.specs.Parts.{Parts}
use Rattle.interp.specs.declared.registers.Registers.{Registers}
use Rattle.interp.specs.Turns.{top_of, worth_in}
use Rattle.interp.specs.Jumps.{ended, exited, nothing_done}
use Rattle.interp.proofs.Refusing.{refused_for}
use Rattle.interp.proofs.jumps.exit.Goals as goal

over : (p : Parts) (r : Registers) (v : Value) (m n : ℤ) (o : Option ℕ) → v ≡ top_of p r → m ≡ n → number n ≡ number_of (worth_in p v) →
    ((s : State) → Fields.exited o s ≡ exit_with (number m) s) → ended (Fields.exited o nothing_done) ≡ exited p r
unfolding exited
over p r v m n o a e b c =
    ap ended (c nothing_done ∙ ap (λ x. exit_with x nothing_done) (ap number e ∙ b ∙ ap (λ x. number_of (worth_in p x)) a))

pub returns : goal.returns
returns c =
    let e : to_z w64 (of_z w64 c.number_in.result) ≡ c.number_in.result = search rules in
    ap (λ o. ended (Fields.exited o nothing_done)) (sym c.in_ok-k.ensures.ok_part)
    ∙ over _ _ _ _ _ c.exit_number.result c.top-v.ensures e c.number_in.ensures c.exit_number.ensures

pub returns-in_err-k : goal.returns-in_err-k
returns-in_err-k c =
    let e : to_z w64 (of_z w64 c.number_in.result) ≡ c.number_in.result = search rules in
    refused_for _ _ _ _ c.from_residual.ensures.1 c.in_err-k.ensures.value c.in_err-k.ensures.ok_part
    ∙ ap (λ o. ended (Fields.exited o nothing_done)) (sym c.in_err-k.ensures.ok_part)
    ∙ over _ _ _ _ _ c.exit_number.result c.top-v.ensures e c.number_in.ensures c.exit_number.ensures
