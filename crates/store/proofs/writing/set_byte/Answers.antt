use Rattle.std.proofs.Common.{ℕ, ◌/◌, ◌%◌, ◌^◌, ◌<◌, get_or, set, sym, ap, arith, rules}
use Rattle.store.specs.Words.{with_byte, put_byte}
use Rattle.store.proofs.Packing.{cleared_le, put_code, put_lt}
use Rattle.store.proofs.Putting.{put_past}
use Rattle.store.proofs.writing.set_byte.Goals as goal

pub overflow_sub-words : goal.overflow_sub-words
overflow_sub-words c = cleared_le (get_or c.args.words.now (c.args.i / 8) 0) (c.args.i % 8) (omega arith)

pub overflow_add-words : goal.overflow_add-words
overflow_add-words c =
    let w : ℕ = get_or c.args.words.now (c.args.i / 8) 0 in
    let s : c.args.b < 256 = omega arith in
    let f : w < 2 ^ 64 = search rules in
    let h : c.args.i % 8 < 8 = omega arith in
    let l : with_byte w (c.args.i % 8) c.args.b < 256 ^ 8 = put_lt 8 (c.args.i % 8) w c.args.b h s f in
    rw c.from.ensures (omega (arith, put_code w (c.args.i % 8) c.args.b h s, l))

pub returns-then-i-words : goal.returns-then-i-words
unfolding put_byte
returns-then-i-words c = rw c.from.ensures (ap (set c.args.words.now (c.args.i / 8)) (put_code (get_or c.args.words.now (c.args.i / 8) 0) (c.args.i % 8) c.args.b (omega arith) (omega arith)))

pub returns-else-i-words : goal.returns-else-i-words
returns-else-i-words c = sym (put_past c.args.words.now c.args.i c.args.b (omega arith))
