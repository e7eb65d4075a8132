use Rattle.std.proofs.Common.{ap, ◌∙◌, arith, ℕ, zero, suc, ◌+◌, ◌<◌, List, [], ◌∷◌, ◌++◌, get_or, drop, sym, subst, get_or-drop}
use Rattle.regions.specs.Parts.{parts, part, with_registers}
use Rattle.regions.proofs.Regions.{parts_registers, part_length}
use Rattle.interp.specs.Registers.{saved_row}
use Rattle.interp.proofs.registers.save_registers.Goals as goal

-- words behind words
both_small : (xs ys : List ℕ) → ((i : ℕ) → get_or xs i 0 < 18446744073709551616) → ((i : ℕ) → get_or ys i 0 < 18446744073709551616) →
    (i : ℕ) → get_or (xs ++ ys) i 0 < 18446744073709551616
both_small [] ys f g i = g i
both_small (x ∷ xs) ys f g zero = f 0
both_small (x ∷ xs) ys f g (suc i) = both_small xs ys (λ k. f (suc k)) g i

pub returns : goal.returns
unfolding parts
returns c = record {
  saved =
      parts_registers c.args.mem.now c.save_row.new.words c.told-mem (c.save_row.auto.words ∙ part_length 0 64 c.args.mem.now (omega arith))
      ∙ ap (with_registers (parts c.args.mem.now)) (c.save_row.ensures.saved ∙ ap (λ x. saved_row x (part 0 64 c.args.mem.now)) c.row_of-row.ensures);
  small = both_small c.save_row.new.words (drop 64 c.args.mem.now) c.save_row.ensures.small
      (λ i. subst (λ x. x < 18446744073709551616) (sym (get_or-drop 64 c.args.mem.now i 0)) (c.fits-mem (64 + i)));
}
