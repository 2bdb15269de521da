use Rattle.std.proofs.Common.{◌∙◌}
use Rattle.pgq_batch.proofs.Between.{ends}
use Rattle.pgq_batch.proofs.ends.ends_between.Goals as goal

pub returns : goal.returns
returns c =
    let f = c.count_below-first.ensures in
    let e = c.count_below-end.ensures in
    let both = ends c.args.prev.now c.args.cur.now c.args.table _ _ _ _ c.args.tables.now c.count_below-first.new.tables c.count_below-end.new.tables c.xmin.ensures.value c.xmax.ensures.value f.count f.same f.upper f.lower e.count e.upper e.lower in
    record {
      first = both.first_is;
      end = both.end_is;
      sound = c.xmax.ensures.sound;
      same = e.same ∙ f.same;
      upper = both.upper;
      lower = both.lower;
    }
