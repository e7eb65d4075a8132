use Rattle.std.proofs.Common.{◌≡◌, ℕ, ◌+◌, List, sym, ap, ◌∙◌, arith}
use Rattle.store.specs.Words.{put_bytes}
use Rattle.store.specs.Space.{Space, space, with_heap, bytes_at, written}
use Rattle.store.proofs.Parts.{heap_part, heap_put, heap_length}
use Rattle.store.proofs.Putting.{puts_past}
use Rattle.store.proofs.texts.fill.Goals as goal

pub returns-then-to-lt-BYTES : goal.returns-then-to-lt-BYTES
unfolding written
returns-then-to-lt-BYTES g c =
    let m : List ℕ = c.args.texts.now in
    let b : List ℕ = g.T.Bytes.bytes c.args.t.now in
    let e : c.saturating_add-to.result ≡ bytes_at 77822 (space 20480 m) c.args.h.index + c.args.at = omega arith in
    heap_put 20480 77822 m _ _ c.requires c.copy_in.auto.words
    (c.copy_in.ensures ∙ ap (λ x. put_bytes x c.saturating_add-to.result b) (heap_part 20480 77822 m c.requires)
    ∙ ap (λ k. put_bytes (space 20480 m).heap k b) e)

pub returns-else-to-lt-BYTES : goal.returns-else-to-lt-BYTES
unfolding written
returns-else-to-lt-BYTES g c =
    let m : List ℕ = c.args.texts.now in
    let s : Space = space 20480 m in
    ap (with_heap s) (sym (puts_past s.heap (bytes_at 77822 s c.args.h.index + c.args.at) (g.T.Bytes.bytes c.args.t.now) (omega (arith, heap_length 20480 m))))
