use Rattle.std.proofs.Common.{rules, tests}
use Rattle.std.proofs.lemmas.Iterator.Search.{find_from_yields_List}
use Rattle.std.proofs.lemmas.Iterator.{YieldsList-from_slice}
use Rattle.londiste_state.specs.Nodes.{LeafTable}
use Rattle.londiste_replay.proofs.tables.first_in.Goals as goal

pub returns-in_err-table : goal.returns-in_err-table
returns-in_err-table g c = λ p fits.
    let found = find_from_yields_List (λ (t : LeafTable). p t.state) _ _ c.find.result c.find.ensures.ran (YieldsList-from_slice c.args.leaf.now.tables cc) (λ x b q k. search (rules, tests, fits)) in
    search (rules, found)

pub returns : goal.returns
returns g c = λ p fits.
    let found = find_from_yields_List (λ (t : LeafTable). p t.state) _ _ c.find.result c.find.ensures.ran (YieldsList-from_slice c.args.leaf.now.tables cc) (λ x b q k. search (rules, tests, fits)) in
    search (rules, found)
