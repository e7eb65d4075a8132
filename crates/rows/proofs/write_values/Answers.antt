use Rattle.std.proofs.Common.{sym, refl, ap, ◌∙◌, arith}
use Rattle.regions.specs.Parts.{parts}
use Rattle.rows.specs.Pens.{put}
use Rattle.rows.specs.Rows.{nth_text}
use Rattle.rows.proofs.Putting.{put_none, put_put}
use Rattle.rows.proofs.Joining.{texts_none, texts_more, stops}
use Rattle.rows.proofs.write_values.Goals as goal

pub loop-i-init : goal.loop-i-init
loop-i-init c =
    record { same_row = refl; written = put_none _ ∙ ap (put _) (sym (texts_none (parts c.args.mem.now) c.args.from)) }

pub returns-then-pen-eq0-clause-written : goal.returns-then-pen-eq0-clause-written
returns-then-pen-eq0-clause-written c =
    stops (parts c.args.mem.now) c.args.from c.loop-i.i c.args.n _ _ (omega arith) c.loop-i.invariant.written (omega arith) (omega arith)

pub loop-i-preserved : goal.loop-i-preserved
loop-i-preserved c =
    let p = parts c.args.mem.now in
    record {
      same_row = c.write_nth.ensures.same_row ∙ c.loop-i.invariant.same_row;
      written =
          c.write_nth.ensures.written ∙ ap (λ x. put x (nth_text p c.args.from c.loop-i.i)) c.loop-i.invariant.written
          ∙ put_put _ _ _ ∙ ap (put _) (sym (texts_more p c.args.from c.loop-i.i));
    }
