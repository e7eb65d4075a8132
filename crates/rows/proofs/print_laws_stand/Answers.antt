use Rattle.std.proofs.Common.{◌∙◌, arith}
use Rattle.std.proofs.lemmas.List.{take_all}
use Rattle.rows.specs.Rows.{went}
use Rattle.rows.specs.Laws.{done_by}
use Rattle.rows.proofs.Joining.{run_part}
use Rattle.rows.proofs.Going.{in_order, gets_on, comes_out, kept, kept_behind}
use Rattle.rows.proofs.print_laws_stand.Goals as goal

pub returns : goal.returns
unfolding went
returns c =
    record {
      in_order = in_order;
      whole = λ p rs w h. in_order p 0 rs w (omega arith) ∙ take_all (done_by p 0 rs) p h;
      gets_on = gets_on;
      ends = λ p rs w h. comes_out p 0 rs w (omega arith);
      keeps = λ p done r. kept r.bytes r.used _;
      keeps_behind = λ p done r w. kept_behind r.bytes r.used p done w;
      on_stack = run_part;
    }
