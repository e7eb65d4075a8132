-- The region of the texts, and what each function of `texts` makes of it, for every content of it. Assumes nothing: these are definitions.
-- T is how many handles there are, and W how many words the blocks have. A read behind the end is 0, and a write there changes nothing.
use Rattle.std.specs.Prelude.{ℕ, zero, suc, ◌+◌, ◌-◌, ◌*◌, ◌/◌, ◌%◌, min, cond, List, take, drop, Some, None, Option, nat_le, nat_lt, slice_index, slice_set}
use Rattle.std.proofs.Math.Seq.{paste}
use Rattle.store.specs.declared.texts.Handle.{Handle}
use Rattle.store.specs.Words.{window, put_bytes}

-- where the next block is laid; the first handle that isn't in use; for each handle its block's place, or the next handle that isn't in use; and the
-- blocks, each the count of its holders, its length in bytes, its handle, and its bytes, eight to a word
pub record Space : Type 0 where
  pub top : ℕ
  pub free : ℕ
  pub table : List ℕ
  pub heap : List ℕ

abbrev pub with_top : Space → ℕ → Space
with_top s v = record { top = v; free = s.free; table = s.table; heap = s.heap }

abbrev pub with_free : Space → ℕ → Space
with_free s v = record { top = s.top; free = v; table = s.table; heap = s.heap }

abbrev pub with_table : Space → List ℕ → Space
with_table s v = record { top = s.top; free = s.free; table = v; heap = s.heap }

abbrev pub with_heap : Space → List ℕ → Space
with_heap s v = record { top = s.top; free = s.free; table = s.table; heap = v }

-- word 0 is the top, word 1 the first free handle, then the table, then the blocks
unfoldable pub space : ℕ → List ℕ → Space
space T m = record { top = slice_index m 0; free = slice_index m 1; table = take T (drop 2 m); heap = drop (2 + T) m }

-- the region as it is: 20,480 handles
abbrev pub region : List ℕ → Space
region m = space 20480 m

-- the words of a block of n bytes
abbrev pub span : ℕ → ℕ
span n = n / 8 + 4

-- where the block of h begins
abbrev pub place : ℕ → Space → ℕ → ℕ
place W s h = min (slice_index s.table h) W

abbrev pub put_word : Space → ℕ → ℕ → Space
put_word s a v = with_heap s (slice_set s.heap a v)

abbrev pub put_entry : Space → ℕ → ℕ → Space
put_entry s h v = with_table s (slice_set s.table h v)

-- COMPACTING

-- the n words from `from` on, of the block of h, go down to `to`
abbrev pub moved : Space → ℕ → ℕ → ℕ → ℕ → Space
moved s from to n h = put_entry (with_heap s (paste s.heap to (drop from s.heap) n)) h to

abbrev pub step_of : ℕ → Space → ℕ → ℕ
step_of e s from = min (span (slice_index s.heap (from + 1))) (e - from)

-- slides the blocks between `from` and e down to `to`, k at most; a block whose handle isn't one is passed over
unfoldable pub slid : ℕ → ℕ → ℕ → Space → ℕ → ℕ → Space
slid T zero e s from to = with_top s to
slid T (suc k) e s from to =
    cond (nat_lt from e)
    (cond (nat_lt (slice_index s.heap (from + 2)) T)
    (slid T k e (moved s from to (step_of e s from) (slice_index s.heap (from + 2))) (from + step_of e s from) (to + step_of e s from))
    (slid T k e s (from + step_of e s from) to))
    (with_top s to)

unfoldable pub compacted : ℕ → ℕ → Space → Space
compacted T W s = slid T W (min s.top W) s 0 0

-- TAKING

pub record Given : Type 0 where
  pub space : Space
  pub handle : Option Handle

abbrev pub handle_of : ℕ → Handle
handle_of h = record { index = h }

-- lays a block of n bytes at the top; it has one holder
unfoldable pub taken : Space → ℕ → Space
taken s n = record {
  top = s.top + span n;
  free = slice_index s.table s.free;
  table = slice_set s.table s.free s.top;
  heap = slice_set (slice_set (slice_set s.heap s.top 1) (s.top + 1) n) (s.top + 2) s.free;
}

unfoldable pub tried : ℕ → ℕ → Space → ℕ → Given
tried T W s n =
    cond (nat_lt s.free T)
    (cond (nat_le (span n) (W - s.top)) (record { space = taken s n; handle = Some (handle_of s.free) }) (record { space = s; handle = None }))
    (record { space = s; handle = None })

-- a text of n bytes: at the top, or else after the blocks were moved together
unfoldable pub allocated : ℕ → ℕ → Space → ℕ → Given
allocated T W s n = cond (nat_le (span n) (W - s.top)) (tried T W s n) (tried T W (compacted T W s) n)

-- HOLDERS

-- one more
unfoldable pub raised : ℕ → Space → ℕ → Space
raised W s h = put_word s (place W s h) ((slice_index s.heap (place W s h) + 1) % 18446744073709551616)

-- the block is no one's any more, and the handle is free
unfoldable pub freed : ℕ → ℕ → Space → ℕ → Space
freed T W s h = with_free (put_entry (put_word s (place W s h + 2) T) h s.free) h

-- one less
unfoldable pub lowered : ℕ → ℕ → Space → ℕ → Space
lowered T W s h =
    cond (nat_lt 1 (slice_index s.heap (place W s h)))
    (put_word s (place W s h) (slice_index s.heap (place W s h) - 1))
    (freed T W s h)

-- BYTES

abbrev pub length_of : ℕ → Space → ℕ → ℕ
length_of W s h = slice_index s.heap (place W s h + 1)

-- the byte of the blocks at which the bytes of h begin
abbrev pub bytes_at : ℕ → Space → ℕ → ℕ
bytes_at W s h = 8 * (place W s h + 3)

-- the bytes of h; fewer than it says where the blocks end
unfoldable pub text_of : ℕ → Space → ℕ → List ℕ
text_of W s h = window (bytes_at W s h) (length_of W s h) s.heap

-- the bytes bs written into h, from its byte `at` on
unfoldable pub written : ℕ → Space → ℕ → ℕ → List ℕ → Space
written W s h at bs = with_heap s (put_bytes s.heap (bytes_at W s h + at) bs)

-- the bytes of `from` written into h
abbrev pub copied : ℕ → Space → ℕ → ℕ → ℕ → Space
copied W s h at from = written W s h at (text_of W s from)

-- EMPTYING

-- each handle, from h on, k of them, is followed by the next
unfoldable pub chained : ℕ → ℕ → List ℕ → List ℕ
chained zero h t = t
chained (suc k) h t = chained k (h + 1) (slice_set t h (h + 1))

-- no texts
unfoldable pub emptied : ℕ → Space → Space
emptied T s = record { top = 0; free = 0; table = chained T 0 s.table; heap = s.heap }
