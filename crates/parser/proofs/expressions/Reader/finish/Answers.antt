use Rattle.std.proofs.Common.{◌≡◌, ℕ, List, false, ◌&&◌, leb, ◌∷◌, sym, refl, ap, ◌∙◌, ap₂, arith}
use Rattle.language.specs.Program.{Term, item, field, un, bin, put_in, part}
use Rattle.language.specs.Known.{plain_term}
use Rattle.parser.specs.Nodes.{prefix_number}
use Rattle.parser.specs.declared.nodes.Operator.TheVariants.{Index as OIndex}
use Rattle.parser.specs.declared.frames.Frame.TheVariants.{Prefixed, Dollar, Assigning, Indexing, Measuring, IndexFirst, IndexSecond, PartFirst, PartSecond, PartThird, SwapFirst}
use Rattle.parser.specs.Frames.{Begun, in_index_of, in_part_of, in_part_at, in_swap_by, resume, FrameSays}
use Rattle.lexer.specs.Places.{fuel, toks}
use Rattle.parser.proofs.Keeping.{bottom}
use Rattle.parser.proofs.Moves.{nothing_written, plain_is, made_bin, made_un, made_field, made_set, made_item, made_part}
use Rattle.parser.proofs.Endings.{length_not_plain, end_grown, end_close, end_part}
use Rattle.parser.proofs.expressions.Reader.finish.Goals as goal

-- what is begun first goes on as what it is
head : {b b₁ : Begun} (bs : List ℕ) (a : Term) (p : ℕ) → b ≡ b₁ → (fs : List Begun) → resume (fuel bs) (b₁ ∷ fs) a (toks bs p) ≡ resume (fuel bs) (b ∷ fs) a (toks bs p)
head bs a p e fs = ap (λ h. resume (fuel bs) (h ∷ fs) a (toks bs p)) (sym e)

pub returns-then-s-eq0-clause-pays : goal.returns-then-s-eq0-clause-pays
unfolding resume
returns-then-s-eq0-clause-pays c =
    let bs = c.args.self.now.text.now in
    let m = c.args.self.now.work.now in
    let s = c.args.s in
    let n = s.nodes in
    let room = c.requires.room in
    record {
      spends = omega arith;
      goes = record {
        kept = nothing_written n m;
        room = record { within = room.within; few = room.few; frames = room.frames; low = room.low; grown = omega arith; nodes = room.nodes };
        falls = tt;
        meets = λ g y. record { operand = y.operand; tree = y.tree; means = ap (λ fs. resume (fuel bs) fs y.operand (toks bs s.place)) (sym (bottom bs m n s.depth y.begun c.if-s-eq0.true y.stack)) ∙ y.means };
      };
    }

pub returns-in-Prefixed-clause-pays : goal.returns-in-Prefixed-clause-pays
unfolding resume FrameSays
returns-in-Prefixed-clause-pays c =
    end_grown _ _ _ _ _ _ (Prefixed c.in-Prefixed.p) c.args.self.now.ready.tokens c.requires.room (record { deep = omega arith; is = c.in-Prefixed.ensures }) _ c.prefix_plain-plain.result 8 c.make.result c.make.ensures.grown
    (λ a t b x.
    let e : c.prefix_plain-plain.result ≡ (leb (prefix_number c.in-Prefixed.p) 1 && plain_term a) = c.prefix_plain-plain.ensures ∙ ap (λ u. leb (prefix_number c.in-Prefixed.p) 1 && u) (plain_is _ _ _ c.args.node a t) in
    (un (prefix_number c.in-Prefixed.p) a, made_un _ _ _ _ c.requires.room.low c.in-Prefixed.p c.args.node c.prefix_plain-plain.result a e t, omega arith, head _ a _ x))

pub returns-in-Dollar-clause-pays : goal.returns-in-Dollar-clause-pays
unfolding resume FrameSays
returns-in-Dollar-clause-pays c =
    end_grown _ _ _ _ _ _ Dollar c.args.self.now.ready.tokens c.requires.room (record { deep = omega arith; is = c.in-Dollar.ensures }) _ c.is_plain-plain.result 8 c.make-in-Dollar.result c.make-in-Dollar.ensures.grown
    (λ a t b x.
    let e : c.is_plain-plain.result ≡ plain_term a = c.is_plain-plain.ensures ∙ plain_is _ _ _ c.args.node a t in
    (field a, made_field _ _ _ _ c.requires.room.low c.args.node c.is_plain-plain.result a e t, omega arith, head _ a _ x))

pub returns-in-Assigning-clause-pays : goal.returns-in-Assigning-clause-pays
unfolding resume FrameSays
returns-in-Assigning-clause-pays c =
    end_grown _ _ _ _ _ _ (Assigning c.in-Assigning.left) c.args.self.now.ready.tokens c.requires.room (record { deep = omega arith; is = c.in-Assigning.ensures }) _ c.both_plain-plain.result 0 c.make-in-Assigning.result c.make-in-Assigning.ensures.grown
    (λ a t b x.
    let e : c.both_plain-plain.result ≡ (plain_term x.0 && plain_term a) = c.both_plain-plain.ensures ∙ ap₂ (λ u v. u && v) (plain_is _ _ _ c.in-Assigning.left x.0 x.1) (plain_is _ _ _ c.args.node a t) in
    (put_in x.0 a, made_set _ _ _ _ c.requires.room.low c.in-Assigning.left c.args.node c.both_plain-plain.result x.0 a e x.1 t, omega arith, head _ a _ x.2))

pub returns-in-Indexing-clause-pays : goal.returns-in-Indexing-clause-pays
unfolding resume FrameSays
returns-in-Indexing-clause-pays c =
    end_close _ _ _ _ _ _ (Indexing c.in-Indexing.x) c.args.self.now.ready.tokens c.requires.room (record { deep = omega arith; is = c.in-Indexing.ensures }) _ 93 c.close.result c.close.ensures.closes
    (λ a t b x. (item x.0 a, made_item _ _ _ _ c.requires.room.low c.in-Indexing.x c.args.node x.0 a x.1 t, head _ a _ x.2))

pub returns-in-Measuring-clause-pays : goal.returns-in-Measuring-clause-pays
unfolding resume FrameSays
returns-in-Measuring-clause-pays c =
    end_close _ _ _ _ _ _ (Measuring c.in-Measuring.p) c.args.self.now.ready.tokens c.requires.room (record { deep = omega arith; is = c.in-Measuring.ensures }) _ 41 c.close-in-Measuring.result c.close-in-Measuring.ensures.closes
    (λ a t b x. (un (prefix_number c.in-Measuring.p) a, made_un _ _ _ _ c.requires.room.low c.in-Measuring.p c.args.node false a (length_not_plain c.in-Measuring.p a x.1) t, head _ a _ x.0))

pub returns-in-IndexSecond-clause-pays : goal.returns-in-IndexSecond-clause-pays
unfolding resume FrameSays
returns-in-IndexSecond-clause-pays c =
    end_close _ _ _ _ _ _ (IndexSecond c.in-IndexSecond.a) c.args.self.now.ready.tokens c.requires.room (record { deep = omega arith; is = c.in-IndexSecond.ensures }) _ 41 c.close-in-IndexSecond.result c.close-in-IndexSecond.ensures.closes
    (λ a t b x. (bin 12 x.0 a, made_bin _ _ _ _ c.requires.room.low OIndex c.in-IndexSecond.a c.args.node false x.0 a refl x.1 t, head _ a _ x.2))

pub returns-in-PartThird-clause-pays : goal.returns-in-PartThird-clause-pays
unfolding resume FrameSays
returns-in-PartThird-clause-pays c =
    end_close _ _ _ _ _ _ (PartThird c.in-PartThird.a c.in-PartThird.b) c.args.self.now.ready.tokens c.requires.room (record { deep = omega arith; is = c.in-PartThird.ensures }) _ 41 c.close-in-PartThird.result c.close-in-PartThird.ensures.closes
    (λ a t b x. (part x.0 x.1 a, made_part _ _ _ _ c.requires.room.low c.in-PartThird.a c.in-PartThird.b c.args.node x.0 x.1 a x.2 x.3 t, head _ a _ x.4))

pub returns-in-IndexFirst-clause-pays : goal.returns-in-IndexFirst-clause-pays
unfolding resume FrameSays
returns-in-IndexFirst-clause-pays c =
    end_part _ _ _ _ _ _ IndexFirst c.args.self.now.ready.tokens c.requires.room (record { deep = omega arith; is = c.in-IndexFirst.ensures }) _ c.part.result c.part.ensures.parts
    (λ a t b x. (in_index_of a, (a, t, refl), head _ a _ x))

pub returns-in-PartFirst-clause-pays : goal.returns-in-PartFirst-clause-pays
unfolding resume FrameSays
returns-in-PartFirst-clause-pays c =
    end_part _ _ _ _ _ _ PartFirst c.args.self.now.ready.tokens c.requires.room (record { deep = omega arith; is = c.in-PartFirst.ensures }) _ c.part-in-PartFirst.result c.part-in-PartFirst.ensures.parts
    (λ a t b x. (in_part_of a, (a, t, refl), head _ a _ x))

pub returns-in-PartSecond-clause-pays : goal.returns-in-PartSecond-clause-pays
unfolding resume FrameSays
returns-in-PartSecond-clause-pays c =
    end_part _ _ _ _ _ _ (PartSecond c.in-PartSecond.a) c.args.self.now.ready.tokens c.requires.room (record { deep = omega arith; is = c.in-PartSecond.ensures }) _ c.part-in-PartSecond.result c.part-in-PartSecond.ensures.parts
    (λ a t b x. (in_part_at x.0 a, (x.0, a, x.1, t, refl), head _ a _ x.2))

pub returns-in-SwapFirst-clause-pays : goal.returns-in-SwapFirst-clause-pays
unfolding resume FrameSays
returns-in-SwapFirst-clause-pays c =
    end_part _ _ _ _ _ _ (SwapFirst c.in-SwapFirst.q) c.args.self.now.ready.tokens c.requires.room (record { deep = omega arith; is = c.in-SwapFirst.ensures }) _ c.part-in-SwapFirst.result c.part-in-SwapFirst.ensures.parts
    (λ a t b x. (in_swap_by x.0 a, (x.0, a, x.1, t, refl), head _ a _ x.2))
