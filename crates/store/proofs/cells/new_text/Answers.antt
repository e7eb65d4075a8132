use Rattle.std.proofs.Common.{ℕ, List, Some, sym, ap, ◌∙◌, arith}
use Rattle.store.specs.declared.cells.Value.TheVariants.{Text}
use Rattle.store.specs.Space.{Space, Given, space}
use Rattle.store.specs.Values.{filled}
use Rattle.store.proofs.Coding.{made_short, made_long}
use Rattle.store.proofs.cells.new_text.Goals as goal

pub returns-then-n-le-LONGEST : goal.returns-then-n-le-LONGEST
returns-then-n-le-LONGEST g c =
    let bs : List ℕ = g.T.Bytes.bytes c.args.t.now in
    made_short 20480 77822 (space 20480 c.args.texts.now) bs c.short_of.result (omega arith) c.short_of.ensures.short

pub returns-in_err-handle : goal.returns-in_err-handle
returns-in_err-handle g c =
    let bs : List ℕ = g.T.Bytes.bytes c.args.t.now in
    let s : Space = space 20480 c.allocate.new.texts in
    let got : Given = record { space = s; handle = c.allocate.result } in
    ap (λ v. record { space = s; value = v }) c.from_residual.ensures
    ∙ ap (λ h. filled 77822 s h bs) (sym c.in_err-handle.was)
    ∙ made_long 20480 77822 (space 20480 c.args.texts.now) bs c.len-n.result got c.len-n.ensures (omega arith) c.allocate.ensures

pub returns : goal.returns
returns g c =
    let bs : List ℕ = g.T.Bytes.bytes c.args.t.now in
    let s : Space = space 20480 c.allocate.new.texts in
    let got : Given = record { space = s; handle = c.allocate.result } in
    ap (λ x. record { space = x; value = Some (Text c.in_ok-handle.handle) }) c.fill.ensures
    ∙ ap (λ h. filled 77822 s h bs) (sym c.in_ok-handle.was)
    ∙ made_long 20480 77822 (space 20480 c.args.texts.now) bs c.len-n.result got c.len-n.ensures (omega arith) c.allocate.ensures
