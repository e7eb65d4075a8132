-- What a machine promises: the theorem Whole, clause by clause, and nine laws of the definitions. Each is a statement: a type, whose values
-- are its proofs. Assumes nothing.
-- It stands on Program (reads: the program that a text is), Meaning (outcome: what a program means to do on all bytes; so_far: the same for
-- the lines that are whole so far) and Run (run_of: what a machine has done after n acts).
-- Words: t is the text of a program, p the program, ps the list in pieces, flat (λ b. b) ps all its bytes; n counts acts of a machine; f bounds
-- how deep a meaning goes (more depth, more of it); out = what is meant to be written; heavy = the most bytes that were to be held.
-- A machine refuses with 1 (no program), 2 (a program it doesn't know), 8 (no room), or the number of an error (3 to 7, 9: Went in Meaning).
-- (x : A) → P reads "for every x, P"; (x : A) × P reads "there is an x with P"; × is "and", ⊎ is "or", ≡ is "equals".
use Rattle.std.specs.Prelude.{◌≡◌, ℕ, zero, suc, ◌+◌, ◌*◌, ◌<◌, ◌≤◌, Bool, true, false, ◌&&◌, ◌⊎◌, List, [], ◌∷◌, ◌++◌, length, take, ◌==◌}
use Rattle.language.specs.Text.{pick, or, every, any, flat, same, none_of, Value, less, alike, looks, Pattern, ends, first_match, matches, has, both, either, some, swap_from, joined, fields_from}
use Rattle.language.specs.Program.{Program, reads}
use Rattle.language.specs.Meaning.{State, Went, went, nexted, stopped, given, wrong, unfinished, state_of, outcome, so_far, over_lines, item_of, set_item, Item}
use Rattle.language.specs.Run.{Engine, Ran, run_of, a_row, Steady}

-- ys begins with xs
abbrev pub Beginning : List ℕ → List ℕ → Type 0
Beginning xs ys = (more : List ℕ) × (ys ≡ xs ++ more)

-- a run ended as the meaning says: normally as done with 0, after exit k as done with k, after error k as refused with k (1000 + k);
-- and just what is meant was written. With the other three no run has ended: their statement, 0 = 1, is false
unfoldable pub EndedAs : Went → Ran → Type 0
EndedAs (went s) r = (r.end ≡ 0) × (r.written ≡ s.out)
EndedAs (nexted s) r = zero ≡ suc zero
EndedAs (stopped k s) r = (r.end ≡ k) × (r.written ≡ s.out)
EndedAs (given v s) r = zero ≡ suc zero
EndedAs (wrong k s) r = (r.end ≡ 1000 + k) × (r.written ≡ s.out)
EndedAs (unfinished s) r = zero ≡ suc zero

-- the depth was enough: the meaning came to an end
unfoldable pub over : Went → Bool
over (went s) = true
over (nexted s) = true
over (stopped k s) = true
over (given v s) = true
over (wrong k s) = true
over (unfinished s) = false

-- a run of program p on the bytes bs was rightly refused for want of room
unfoldable pub NoRoom : Program → List ℕ → Ran → Type 0
NoRoom p bs r =
    -- it was refused with 8; there is a depth at which more than 262,144 bytes were to be held, and what was written is a beginning of what
    -- is meant to be written by then
    (r.end ≡ 1008) × ((n : ℕ) × (262144 < (state_of (outcome n p bs)).heavy) × Beginning r.written (state_of (outcome n p bs)).out)
    -- and all is written that is meant to be written at any depth at which no more than 262,144 bytes were to be held
    × ((m : ℕ) → (state_of (outcome m p bs)).heavy ≤ 262144 → Beginning (state_of (outcome m p bs)).out r.written)

-- THE MAIN PROMISE, for machine e, text t, which is program p, and the list in pieces ps. Five clauses:
unfoldable pub Right : Engine → List ℕ → Program → List (List ℕ) → Type 0
Right e t p ps =
    -- nothing is written that isn't meant: after any number of acts, what was written is a beginning of what is meant, at some depth, on all bytes
    ((n : ℕ) → (f : ℕ) × Beginning (run_of n e t ps).written (state_of (outcome f p (flat (λ b. b) ps))).out)
    -- nothing is held back: whenever the machine asks for a piece, the BEGIN rules and all lines that are whole in the pieces given so far
    -- are done, at some depth, without exit or error, and just what they write was written
    × ((n : ℕ) → (run_of n e t ps).asks ≡ true →
    (f : ℕ) × (s : State) × (so_far f p (flat (λ b. b) (take (run_of n e t ps).given ps)) ≡ went s) × ((run_of n e t ps).written ≡ s.out))
    -- it ends only as it is meant to: after any number of acts it is still running, or it was rightly refused for want of room,
    -- or it ended as the meaning, at some depth, ends
    × ((n : ℕ) → ((run_of n e t ps).end ≡ 10000000)
    ⊎ (NoRoom p (flat (λ b. b) ps) (run_of n e t ps) ⊎ ((f : ℕ) × EndedAs (outcome f p (flat (λ b. b) ps)) (run_of n e t ps))))
    -- it ends if it is meant to: if the meaning ends at some depth, then after some number of acts the run is over, and not by a fault
    × ((f : ℕ) → over (outcome f p (flat (λ b. b) ps)) ≡ true → (n : ℕ) × ((run_of n e t ps).end < 9999999))
    -- what is meant to be written is written some time: for any depth, after some number of acts all that is meant at that depth is written,
    -- or the run was refused with 8 (no room)
    × ((f : ℕ) → (n : ℕ) × (Beginning (state_of (outcome f p (flat (λ b. b) ps))).out (run_of n e t ps).written ⊎ ((run_of n e t ps).end ≡ 1008)))

-- THE THEOREM for machine e, with known saying which programs it knows
unfoldable pub Whole : (Program → Bool) → Engine → Type 0
Whole known e =
    -- its memory is bounded, all 0 at the start, and never grows
    Steady e
    -- and for every text of up to 4,096 bytes and every list in up to 2^32 pieces of up to 4,096 bytes each:
    × ((t : List ℕ) (ps : List (List ℕ)) → a_row t ≡ true → every a_row ps ≡ true → length ps ≤ 4294967296 →
    -- a text that is no program is refused with 1, and nothing is written
    (none_of (reads t) ≡ true → (n : ℕ) × ((run_of n e t ps).end ≡ 1001) × ((run_of n e t ps).written ≡ []))
    -- a program that isn't known is refused with 2, and nothing is written
    × ((p : Program) → reads t ≡ p ∷ [] → known p ≡ false → (n : ℕ) × ((run_of n e t ps).end ≡ 1002) × ((run_of n e t ps).written ≡ []))
    -- a program that is known is done rightly, as above
    × ((p : Program) → reads t ≡ p ∷ [] → known p ≡ true → Right e t p ps))

-- NINE LAWS of the definitions

-- more depth changes no meaning that is over: at any greater depth it ends in the same way and in the same state
unfoldable pub DeeperSame : Type 0
DeeperSame = (p : Program) (bs : List ℕ) (f k : ℕ) → over (outcome f p bs) ≡ true → outcome (k + f) p bs ≡ outcome f p bs

-- what is written stays written: at any greater depth, what is meant to be written begins with what was
unfoldable pub OnlyMore : Type 0
OnlyMore = (p : Program) (bs : List ℕ) (f k : ℕ) → Beginning (state_of (outcome f p bs)).out (state_of (outcome (k + f) p bs)).out

-- lines can be done in two parts: if the first ones are done, all of them come to what the others come to in the state left behind
unfoldable pub InParts : Type 0
InParts =
    (p : Program) (f : ℕ) (ls ms : List (List ℕ)) (s s₁ : State) → over_lines f p ls s ≡ went s₁ → over_lines f p (ls ++ ms) s ≡ over_lines f p ms s₁

-- where matches end, for beginnings within the text:
unfoldable pub EndsRight : Type 0
EndsRight =
    (bs : List ℕ) (p q : Pattern) (i j : ℕ) → i ≤ length bs →
    -- of a concatenation, where a match of q ends that begins at an end of one of p
    (has (ends bs (both p q) i) j ≡ any (λ k. has (ends bs q k) j) (ends bs p i))
    -- of an alternation, where one of p or one of q ends
    × (has (ends bs (either p q) i) j ≡ or (has (ends bs p i) j) (has (ends bs q i) j))
    -- of a repetition, at the beginning itself, or where a repetition ends that begins at an end of one match of p
    × (has (ends bs (some p) i) j ≡ or (has (i ∷ []) j) (any (λ k. has (ends bs (some p) k) j) (ends bs p i)))

-- the first match, if there is one from i to j:
unfoldable pub FirstLongest : Type 0
FirstLongest =
    (bs : List ℕ) (p : Pattern) (i j : ℕ) → first_match bs p 0 (suc (length bs)) ≡ i ∷ j ∷ [] →
    -- it is a match; none that begins at i is longer; and none begins before i
    (has (ends bs p i) j ≡ true) × ((k : ℕ) → has (ends bs p i) k ≡ true → k ≤ j) × ((h : ℕ) → h < i → ends bs p h ≡ [])

-- without a match nothing is replaced: the text stays, and the count is 0
unfoldable pub SwapNone : Type 0
SwapNone = (bs t : List ℕ) (p : Pattern) → matches bs p ≡ false → swap_from (2 * length bs + 2) bs p t 0 false ≡ record { bytes = bs; times = 0 }

-- a table holds what was set last:
unfoldable pub ItemsRight : Type 0
ItemsRight =
    (is : List Item) (x k y j : List ℕ) (v : Value) →
    -- the entry that was set has the new value
    (item_of (set_item is x k v) x k ≡ v)
    -- and each other entry, of another table or at another key, has the value that it had
    × (same x y && same k j ≡ false → item_of (set_item is x k v) y j ≡ item_of is y j)

-- values that look like numbers have one order:
unfoldable pub Order : Type 0
Order =
    (a b c : Value) → (looks a && (looks b && looks c)) ≡ true →
    -- it is transitive; none is less than itself; and of two, one is less or they are equal
    (less a b ≡ true → less b c ≡ true → less a c ≡ true) × (less a a ≡ false) × (or (less a b) (or (less b a) (alike a b)) ≡ true)

-- fields put together with a blank between and cut again are the same fields, if none is empty or has blanks or tabs; in three definitions:

-- a text without blanks and tabs
unfoldable pub no_gap : List ℕ → Bool
no_gap bs = every (λ c. pick (or (c == 32) (c == 9)) false true) bs

-- texts that can be fields: none is empty, and none has blanks or tabs
unfoldable pub full : List (List ℕ) → Bool
full fs = every (λ f. no_gap f && pick (none_of f) false true) fs

-- the law itself
unfoldable pub FieldsAgain : Type 0
FieldsAgain = (fs : List (List ℕ)) → full fs ≡ true → fields_from [] (joined fs) ≡ fs
