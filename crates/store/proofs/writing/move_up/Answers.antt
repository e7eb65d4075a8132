use Rattle.std.proofs.Common.{◌≡◌, ℕ, ◌+◌, ◌-◌, List, get_or, drop, sym, ap, ◌∙◌, arith}
use Rattle.std.proofs.lemmas.List.{drop_all}
use Rattle.store.specs.Words.{unpacked, put_byte, put_bytes, window}
use Rattle.store.proofs.Putting.{puts_none}
use Rattle.store.proofs.Moving.{length_window, byte_below, puts_before, window_below}
use Rattle.store.proofs.writing.move_up.Goals as goal

pub loop-i-init : goal.loop-i-init
loop-i-init c =
    let ws : List ℕ = c.args.words.now in
    let bs : List ℕ = window c.args.from c.args.n ws in
    let l = length_window c.args.from c.args.n ws (omega arith) in
    (sym (ap (put_bytes ws (c.args.to + c.args.n)) (drop_all c.args.n bs (omega arith)) ∙ puts_none ws (c.args.to + c.args.n)), λ i. (c.type_inv.words i).fits)

pub loop-i-preserved : goal.loop-i-preserved
loop-i-preserved c =
    let ws : List ℕ = c.args.words.now in
    let bs : List ℕ = window c.args.from c.args.n ws in
    let i : ℕ = c.loop-i.i - 1 in
    let s : c.loop-i.i ≡ i + 1 = omega arith in
    let l = length_window c.args.from c.args.n ws (omega arith) in
    let inv : c.loop-i.words ≡ put_bytes ws (c.args.to + (i + 1)) (drop (i + 1) bs) = c.loop-i.invariant.0 ∙ ap (λ k. put_bytes ws (c.args.to + k) (drop k bs)) s in
    let e : c.byte-b.result ≡ get_or bs i 0 = c.byte-b.ensures ∙ ap (λ x. get_or (unpacked x) (c.args.from + i) 0) inv ∙ byte_below ws c.args.from c.args.to c.args.n i (omega arith) (omega arith) (omega arith) in (
      c.set_byte.ensures ∙ ap (λ x. put_byte x (c.args.to + i) c.byte-b.result) inv
          ∙ ap (put_byte (put_bytes ws (c.args.to + (i + 1)) (drop (i + 1) bs)) (c.args.to + i)) e
          ∙ puts_before ws c.args.to bs i c.loop-i.invariant.1 (window_below c.args.from c.args.n ws) (omega arith),
      c.loop-i.invariant.1,
    )
