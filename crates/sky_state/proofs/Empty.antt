-- What a database in which nothing has happened shows.
use Rattle.std.proofs.Common.{◌≡◌, ℕ, [], false, get_or, arith}
use Rattle.std.proofs.lemmas.List.{get_or_past}
use Rattle.sky_model.specs.declared.stmt.Attempt.TheVariants.{Deletion}
use Rattle.sky_model.specs.State.{part_of}
use Rattle.sky_state.specs.Views.{no_rows}
use Rattle.sky_state.specs.Seen.{seen_session, rest, no_table, seen}

pub seen-no_rows : seen no_rows ≡ part_of []
seen-no_rows = λ i. record (part_of []) {
  session = λ who. seen_session (none who rest i);
  columns = λ n. (none n no_table i).columns;
  versions = λ n. (none n no_table i).versions;
  is_read_only = λ n. none n false i;
  attempt = λ who. none who Deletion i;
}
  where
    none : {A : Type 0} (n : ℕ) (d : A) → get_or [] n d ≡ d
    none n d = get_or_past [] n d (omega arith)
