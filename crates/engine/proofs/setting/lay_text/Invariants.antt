use Rattle.std.proofs.Common.{◌≡◌, take}
use Rattle.store.specs.Words.{put_bytes}
use Rattle.store.specs.Space.{text_of}
use Rattle.regions.specs.Parts.{parts, with_lines}
use Rattle.engine.proofs.setting.lay_text.Given as goal

-- so many bytes are there
abbrev pub invariant-loop-at : goal.invariant-loop-at
invariant-loop-at l =
    parts l.mem ≡ with_lines (parts l.initial.mem) (put_bytes (parts l.initial.mem).lines l.to (take l.at (text_of 77822 (parts l.initial.mem).texts l.h.index)))
