use Rattle.std.proofs.Common.{◌≡◌, ◌+◌, ◌-◌, drop, sym, ap, ◌∙◌, arith, drop-drop}
use lib.Seq.{paste}
use Rattle.store.specs.Space.{space, with_heap}
use Rattle.store.proofs.Parts.{heap_is, pasted, paste_self}
use Rattle.store.proofs.texts.shift.Goals as goal

pub returns-then-to-from : goal.returns-then-to-from
returns-then-to-from c =
    let e : 20482 + c.args.from + c.args.n - (20482 + c.args.from) ≡ c.args.n = omega arith in
    let d : drop (20482 + c.args.from) c.args.texts.now ≡ drop c.args.from (space 20480 c.args.texts.now).heap
    = sym (drop-drop c.args.from 20482 c.args.texts.now) ∙ ap (drop c.args.from) (sym (heap_is 20480 c.args.texts.now)) in
    ap (space 20480)
    (c.copy_within.ensures.after
    ∙ ap (paste c.args.texts.now (20482 + c.args.to) (drop (20482 + c.args.from) c.args.texts.now)) e
    ∙ ap (λ y. paste c.args.texts.now (20482 + c.args.to) y c.args.n) d)
    ∙ pasted 20480 c.args.texts.now (drop c.args.from (space 20480 c.args.texts.now).heap) c.args.to c.args.n (omega arith)

pub returns-else-to-from : goal.returns-else-to-from
returns-else-to-from c =
    let e : c.args.from ≡ c.args.to = omega arith in
    ap (with_heap (space 20480 c.args.texts.now))
    (sym (ap (λ x. paste (space 20480 c.args.texts.now).heap c.args.to (drop x (space 20480 c.args.texts.now).heap) c.args.n) e
    ∙ paste_self (space 20480 c.args.texts.now).heap c.args.to c.args.n))
