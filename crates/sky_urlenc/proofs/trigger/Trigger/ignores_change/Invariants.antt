use Rattle.std.proofs.Common.{◌≡◌, false}
use Rattle.sky_urlenc.specs.RowEvents.{changed_columns}
use Rattle.sky_urlenc.proofs.Ignored.{ignored_more}
use Rattle.sky_urlenc.proofs.trigger.Trigger.ignores_change.Given as goal

-- the columns that are left decide as all columns do
abbrev pub invariant-loop-column : goal.invariant-loop-column
invariant-loop-column l =
    ignored_more l.self l.changed (changed_columns l.column-iterator.a.rest.now l.column-iterator.b.a.rest.now l.column-iterator.b.b.rest.now)
    ≡ ignored_more l.self false (changed_columns l.columns l.old l.new)
