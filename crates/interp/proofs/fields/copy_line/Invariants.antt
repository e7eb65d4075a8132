use Rattle.std.proofs.Common.{◌≡◌, take}
use Rattle.store.specs.Words.{window}
use Rattle.store.specs.Space.{written}
use Rattle.regions.specs.Parts.{parts, with_texts}
use Rattle.interp.proofs.fields.copy_line.Given as goal

-- so many bytes are copied
abbrev pub invariant-loop-at : goal.invariant-loop-at
invariant-loop-at l =
    parts l.mem ≡ with_texts (parts l.initial.mem) (written 77822 (parts l.initial.mem).texts l.h.index 0 (take l.at (window l.place.start l.place.len (parts l.initial.mem).lines)))
