use Rattle.std.proofs.Common.{◌≡◌, drop}
use Rattle.store.specs.Words.{window}
use Rattle.regions.specs.Parts.{parts, with_fields}
use Rattle.lines.specs.Cutting.{cuts_of, fresh_cut, pass_all}
use Rattle.lines.proofs.cutting.recut.Given as goal

abbrev pub invariant-loop-i : goal.invariant-loop-i
invariant-loop-i l =
    (pass_all (window l.place.start l.place.len (parts l.initial.mem).lines) (cuts_of (parts l.initial.mem).fields fresh_cut)
    ≡ pass_all (drop l.cut.at (window l.place.start l.place.len (parts l.initial.mem).lines)) (cuts_of (parts l.mem).fields l.cut))
    × (parts l.mem ≡ with_fields (parts l.initial.mem) (parts l.mem).fields)
    × (l.cut.at ≡ l.i)
