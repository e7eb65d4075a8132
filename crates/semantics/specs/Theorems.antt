-- The theorems, one after the other. Each is a statement; the functions of src/ ask for its proof.
use Rattle.std.specs.Prelude.{◌≡◌, ℕ, suc, ◌+◌, ◌<◌, ◌≤◌, Bool, true, ◌⊎◌, List, [], ◌∷◌, ◌++◌, length}
use Rattle.language.specs.Text.{each, limit, fields_from, joined}
use Rattle.language.specs.Program.{Program, reads}
use Rattle.language.specs.Meaning.{State, Went, went, unfinished, state_of, weight, outcome, so_far}
use Rattle.language.specs.Run.{Engine, Ran, a_row}
use Rattle.language.specs.Promise.{Beginning, over, NoRoom, Whole}
use Rattle.semantics.specs.Lines.{Stage, done_by, run_state, run, Live, live, waits, follow, live_state, live_out, shut, buffer, Reached}
use Rattle.semantics.specs.Lines as lines
use Rattle.semantics.specs.Invariants.{Proper, Followed, Callable, SoundLive, cut, spots_from, spots_joined}
use Rattle.semantics.specs.Stack.{Cell, held, below_top, jump, note_all, note_below, at}
use Rattle.semantics.specs.Code.{program_code, code}
use Rattle.semantics.specs.Engine.{Full, Machine}

-- 1. Whatever the meaning comes to at some depth, the machine comes to. If the run is over, the machine ends so. If it was cut off there, the machine is
-- in that state at some time, after at least as many steps as the run was allowed to go deep.
abbrev pub Forward : Type 0
Forward =
    (p : Program) (bs : List ℕ) (n : ℕ) →
    ((k : ℕ) × (run p bs k ≡ done_by (outcome n p bs)))
    ⊎ ((k : ℕ) × (s : State) × (n ≤ k) × (outcome n p bs ≡ unfinished s) × (run_state (run p bs k) ≡ s))

-- 2. What the machine has written after n steps is meant, at the depth n; and it has held no more than is meant to be held.
abbrev pub Back : Type 0
Back =
    (p : Program) (bs : List ℕ) (n : ℕ) →
    Beginning (run_state (run p bs n)).out (state_of (outcome n p bs)).out × ((run_state (run p bs n)).heavy ≤ (state_of (outcome n p bs)).heavy)

-- 3. A run of the machine that has ended, ended as meant.
abbrev pub Ended : Type 0
Ended = (p : Program) (bs : List ℕ) (n : ℕ) (w : Went) → run p bs n ≡ done_by w → (outcome (suc n) p bs ≡ w) × (over w ≡ true)

-- 4. A live run, which knows only the bytes that came, is the run over all lines, whatever comes behind these bytes: it is in the same state after as
-- many steps, and it is over when that is.
abbrev pub InPieces : Type 0
InPieces =
    (p : Program) (bs fu : List ℕ) (n : ℕ) (x : Live) → Reached p bs n x → (shut x ≡ true → fu ≡ []) →
    (run_state (run p (bs ++ fu) n) ≡ live_state x) × ((w : Went) (z : Bool) → x ≡ lines.over w z → run p (bs ++ fu) n ≡ done_by w)

-- 5. Where it waits for more bytes, all is done that the whole lines among the bytes that came are meant to do.
abbrev pub WaitingDone : Type 0
WaitingDone =
    (p : Program) (bs : List ℕ) (n : ℕ) (x : Live) (s : State) → Reached p bs n x → follow p x ≡ waits s →
    (so_far (suc (suc n)) p bs ≡ went s) × (live_out x ≡ s.out)

-- 6. Where more was noted than may be held, "no room" is right: that much is meant to be held, and what is meant before is written.
abbrev pub Room : Type 0
Room =
    (p : Program) (bs : List ℕ) (n : ℕ) (r : Ran) → 262144 < (run_state (run p bs n)).heavy → r.end ≡ 1008 → r.written ≡ (run_state (run p bs n)).out →
    NoRoom p bs r

-- 7. A run ends only with the last line, with a number below 256, or with a fault.
abbrev pub ProperEnds : Type 0
ProperEnds = (n : ℕ) (p : Program) (bs : List ℕ) → Proper (outcome n p bs)

-- 8. At a note of more than may be held it is as if that had been noted already.
abbrev pub FullNotes : Type 0
FullNotes =
    (p : Program) (g : Stage) (q d : ℕ) (st : List Cell) (s : State) (b : List ℕ) (z : Bool) →
    (code p q ≡ note_all d → 262144 < weight s + (d + held st) → Full p (live g (at q st s) b z) s.out)
    × (code p q ≡ note_below d → 262144 < weight s + (d + held (below_top st)) → Full p (live g (at q st s) b z) s.out)

-- 9. In the code of a program that is read, each instruction that pushes a value or keeps one is followed by a note before anything else is pushed or kept;
-- and so is each call, at the statements that it leads to.
abbrev pub NotedCode : Type 0
NotedCode =
    (t : List ℕ) (p : Program) → a_row t ≡ true → reads t ≡ p ∷ [] →
    ((i : ℕ) → i < length (program_code p) → Followed p.funs (code p i) (code p (suc i)))
    × ((q : ℕ) (xs : List (List ℕ)) → Callable p.funs q xs → (r : ℕ) × (code p q ≡ jump r) × (code p r ≡ note_all 16))

-- 10. The code of a program that is read has at most six instructions for each byte of its text, and three more.
abbrev pub ShortCode : Type 0
ShortCode = (t : List ℕ) (p : Program) → a_row t ≡ true → reads t ≡ p ∷ [] → length (program_code p) ≤ 24579

-- 11. Everything that the run of a program comes to is sound, and there are no more lines, and bytes that wait, than bytes came.
abbrev pub SoundRuns : Type 0
SoundRuns =
    (t : List ℕ) (p : Program) → a_row t ≡ true → reads t ≡ p ∷ [] → (bs : List ℕ) (n : ℕ) (x : Live) → Reached p bs n x → length bs < limit →
    SoundLive p x × ((live_state x).lines + length (buffer x) ≤ length bs)

-- 12. The fields of a line, and fields that are joined to a line, are places in it.
abbrev pub FieldsPlaced : Type 0
FieldsPlaced =
    (l : List ℕ) (fs : List (List ℕ)) → (each (cut l) (spots_from 0 0 l) ≡ fields_from [] l) × (each (cut (joined fs)) (spots_joined 0 fs) ≡ fs)

-- 13. An engine that keeps what is owed turn by turn keeps the whole promise: `machine_whole` of proofs/Turns says so of all states within a step and of
-- every relation between them or memory and runs. A function's contract can't speak of all of them at once. Here it is for states that are memory
-- and a row, and for relations that some number vouches for.
abbrev pub Promised : Type 0
Promised =
    (known : Program → Bool) (e : Engine) (vouches : Program → List ℕ → Live → List ℕ → ℕ → Bool) (within : Program → List ℕ × List ℕ → Live → List ℕ → ℕ → Bool) →
    Machine known e (List ℕ × List ℕ) (λ p m x u. (k : ℕ) × (vouches p m x u k ≡ true)) (λ p s x u. (k : ℕ) × (within p s x u k ≡ true)) → Whole known e
