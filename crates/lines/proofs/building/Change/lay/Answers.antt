use Rattle.std.proofs.Common.{◌≡◌, ℕ, ◌≢◌, List, get_or, sym, ap, ◌∙◌, arith}
use Rattle.std.proofs.lemmas.List.{get_or-set_other}
use Rattle.regions.specs.Parts.{Parts, parts}
use Rattle.regions.specs.Places.{place_word}
use Rattle.lines.specs.Building.{buffer_of, piece_of, laid_one}
use Rattle.lines.specs.Lines.{place}
use Rattle.lines.proofs.Pieces.{buffer_below, same_piece, total_turn, room_left, laid_turn, laid_done}
use Rattle.lines.proofs.building.Change.lay.Goals as goal

pub lay-requires : goal.lay-requires
lay-requires c = (
  omega (arith, c.free_buffer-start.ensures, buffer_below c.args.self.line),
  room_left (parts c.args.mem.now).fields (parts c.loop-i.mem).fields c.args.self.line c.args.self.n c.args.self.len c.args.self.fields c.loop-i.i c.loop-i.at c.piece-p.result (omega arith) c.piece-p.ensures
      (c.loop-i.invariant.2 c.loop-i.i (omega arith)) c.loop-i.invariant.1 c.requires,
)

pub overflow_add-at : goal.overflow_add-at
overflow_add-at c =
    omega (
      arith,
      room_left (parts c.args.mem.now).fields (parts c.loop-i.mem).fields c.args.self.line c.args.self.n c.args.self.len c.args.self.fields c.loop-i.i c.loop-i.at c.piece-p.result (omega arith) c.piece-p.ensures
          (c.loop-i.invariant.2 c.loop-i.i (omega arith)) c.loop-i.invariant.1 c.requires,
    )

pub overflow_add-at-in-loop-i : goal.overflow_add-at-in-loop-i
overflow_add-at-in-loop-i c =
    omega (
      arith,
      room_left (parts c.args.mem.now).fields (parts c.loop-i.mem).fields c.args.self.line c.args.self.n c.args.self.len c.args.self.fields c.loop-i.i c.loop-i.at c.piece-p.result (omega arith) c.piece-p.ensures
          (c.loop-i.invariant.2 c.loop-i.i (omega arith)) c.loop-i.invariant.1 c.requires,
    )

pub loop-i-preserved : goal.loop-i-preserved
loop-i-preserved c =
    let ws : List ℕ = (parts c.args.mem.now).fields in
    let p : Parts = parts c.loop-i.mem in
    let q : Parts = parts c.lay.new.mem in
    let i : ℕ = c.loop-i.i in
    let x : c.piece-p.result ≡ piece_of ws c.args.self.line c.args.self.n c.args.self.len i = c.piece-p.ensures ∙ same_piece p.fields ws c.args.self.line c.args.self.n c.args.self.len i (c.loop-i.invariant.2 i (omega arith)) in
    let e = total_turn ws c.args.self.line c.args.self.n c.args.self.len c.args.self.fields i (omega arith) in
    let f : q ≡ laid_one p (buffer_of c.args.self.line) i c.loop-i.at c.piece-p.result = c.lay.ensures ∙ ap (λ b. laid_one p b i c.loop-i.at c.piece-p.result) c.free_buffer-start.ensures in (
      c.loop-i.invariant.0 ∙ laid_turn p q (buffer_of c.args.self.line) i c.loop-i.at c.piece-p.result ws c.args.self.line c.args.self.n c.args.self.len c.args.self.fields (omega arith) x f,
      omega (arith, c.loop-i.invariant.1, ap (λ y. y.room) x),
      λ j h.
          let ne : j ≢ i = omega arith in
          ap (λ y. get_or y.fields j 0) f ∙ get_or-set_other p.fields i j (place_word (place c.loop-i.at c.piece-p.result.room)) 0 ne ∙ c.loop-i.invariant.2 j (omega arith),
    )

pub returns : goal.returns
returns c =
    let ws : List ℕ = (parts c.args.mem.now).fields in
    sym (c.loop-i.invariant.0 ∙ laid_done (parts c.loop-i.mem) (buffer_of c.args.self.line) c.loop-i.i c.loop-i.at ws c.args.self.line c.args.self.n c.args.self.len c.args.self.fields (omega arith))
