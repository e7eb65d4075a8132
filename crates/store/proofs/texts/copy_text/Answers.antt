use Rattle.std.proofs.Common.{◌≡◌, ℕ, ◌+◌, List, sym, ap, ◌∙◌, arith}
use Rattle.store.specs.Words.{put_bytes, window}
use Rattle.store.specs.Space.{Space, space, with_heap, bytes_at, length_of, text_of, written}
use Rattle.store.proofs.Parts.{heap_part, heap_put, heap_length}
use Rattle.store.proofs.Putting.{puts_past}
use Rattle.store.proofs.Moving.{moved_cut}
use Rattle.store.proofs.texts.copy_text.Goals as goal

pub returns-then-to-lt-BYTES : goal.returns-then-to-lt-BYTES
unfolding written text_of
returns-then-to-lt-BYTES c =
    let m : List ℕ = c.args.texts.now in
    let s : Space = space 20480 m in
    let hp : List ℕ = s.heap in
    let l = heap_length 20480 m in
    let e : c.saturating_add-to.result ≡ bytes_at 77822 s c.args.h.index + c.args.at = omega arith in
    let t : ℕ = c.saturating_add-to.result in
    heap_put 20480 77822 m _ _ c.requires c.move_bytes.auto.words
    (c.move_bytes.ensures ∙ ap (λ x. put_bytes x t (window c.min-begin.result c.min-n.result x)) (heap_part 20480 77822 m c.requires)
    ∙ moved_cut hp (bytes_at 77822 s c.args.from.index) (length_of 77822 s c.args.from.index) t c.min-begin.result c.min-size.result c.min-n.result (omega arith) (omega arith) (omega arith)
    ∙ ap (λ k. put_bytes hp k (window (bytes_at 77822 s c.args.from.index) (length_of 77822 s c.args.from.index) hp)) e)

pub returns-else-to-lt-BYTES : goal.returns-else-to-lt-BYTES
unfolding written
returns-else-to-lt-BYTES c =
    let m : List ℕ = c.args.texts.now in
    let s : Space = space 20480 m in
    ap (with_heap s) (sym (puts_past s.heap (bytes_at 77822 s c.args.h.index + c.args.at) (text_of 77822 s c.args.from.index) (omega (arith, heap_length 20480 m))))
