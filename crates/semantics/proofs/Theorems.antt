-- The theorems, from the files before.
use Rattle.std.proofs.Common.{◌≡◌, ℕ, ◌+◌, ◌≤◌, true, false, List, [], ◌∷◌, length, sym, refl, ap, ◌∙◌, inl, inr, arith}
use Rattle.language.specs.Program.{Program, reads}
use Rattle.language.specs.Run.{a_row}
use Rattle.semantics.specs.Lines.{run_state, Live, live_state, buffer}
use Rattle.semantics.specs.Invariants.{SoundLive}
use Rattle.semantics.specs.Engine.{Comes}
use Rattle.semantics.specs.Theorems.{Forward, Back, Ended, InPieces, WaitingDone, Room, ProperEnds, FullNotes, NotedCode, ShortCode, SoundRuns, FieldsPlaced, Promised}
use Rattle.semantics.proofs.Programs.{finishes, lasts, ends_outcome, back as back_grows, over_is, room as RoomBy, call_leads}
use Rattle.semantics.proofs.Notes.{program_followed}
use Rattle.semantics.proofs.Reading.{reads_right, reads_sound}
use Rattle.semantics.proofs.Sizes.{program_length}
use Rattle.semantics.proofs.Invariants.{reached_sound}
use Rattle.semantics.proofs.Spots.{line_spots, joined_spots}
use Rattle.semantics.proofs.Full.{full_note, full_below}
use Rattle.semantics.proofs.Pieces.{view, view_state, reached_run, reached_waits, reached_many, wait_out}
use Rattle.semantics.proofs.Endings.{outcome_proper}
use Rattle.semantics.proofs.Turns.{machine_whole}

pub forward : Forward
forward p bs n = elim (ends_outcome p n bs) [ finishes t l ↦ inl (l.k, l.is) | lasts g ls q st s z l ↦ inr (l.k, s, l.enough, z, ap run_state l.is) ]

pub back : Back
back p bs n = ((back_grows p bs n).outs, (back_grows p bs n).heavies)

pub ended : Ended
ended p bs n w h = over_is p bs n w h

pub in_pieces : InPieces
in_pieces p bs fu n x r h =
    let v = reached_run p r fu h in
    (ap run_state v ∙ view_state false fu x, λ w z e. v ∙ ap (λ y. view false fu y) e)

pub waiting_done : WaitingDone
waiting_done p bs n x s r e = (reached_waits p r e, sym (wait_out p x e))

pub room : Room
room p bs n r a b c = RoomBy p bs n r a b c

pub proper_ends : ProperEnds
proper_ends = outcome_proper

pub full_notes : FullNotes
full_notes p g q d st s b z = (full_note p g q d st s b z, full_below p g q d st s b z)

pub noted_code : NotedCode
noted_code t p a e = (λ i h. program_followed p (reads_sound t p a e) i h, λ q xs h. call_leads p h)

pub short_code : ShortCode
short_code t p a e = omega (arith, program_length p, (reads_right t p a e).1)

pub sound_runs : SoundRuns
sound_runs t p a e bs n x r l = (reached_sound p (reads_sound t p a e) r l, reached_many p r)

-- for those who prove an engine
pub comes_sound : {p : Program} {x : Live} (t : List ℕ) → a_row t ≡ true → reads t ≡ p ∷ [] → Comes p x → SoundLive p x × ((live_state x).lines + length (buffer x) ≤ 17592186044416)
comes_sound {p} {x} t a e c =
    let s = sound_runs t p a e c.so_far c.made x c.reached (omega (arith, c.few)) in
    (s.0, omega (arith, s.1, c.few))

pub fields_placed : FieldsPlaced
fields_placed l fs = (line_spots l, joined_spots fs [] 0 refl)

pub promised : Promised
promised known e vouches within h = machine_whole known e (List ℕ × List ℕ) _ _ h
