use Rattle.std.proofs.Common.{◌≡◌, ◌∙◌, ap, sym, subst, rules}
use Rattle.std.proofs.lemmas.Option.{same_Some}
use Rattle.sky_chain.specs.Chains.{IsBetween, IsLinked, AreApart, last_of, nodes_of}
use Rattle.sky_keys.specs.declared.version.Version.{Version}
use Rattle.sky_rows.specs.Older.{OlderView, node_at}
use Rattle.sky_rows.proofs.Walk.{IsAhead, from_last, here, found_here, past, nearer, none_ahead}
use Rattle.sky_rows.proofs.older.Older.find.Goals as goal
use Rattle.sky_rows.proofs.older.Older.find.Goals.{in-Some-version+else-passes, in_default-version}

pub loop-at-init : goal.loop-at-init
loop-at-init g c = from_last _ c.args.self.now c.args.list c.last-at.result c.requires.list (c.last-at.ensures ∙ ap (λ (o : OlderView). last_of (nodes_of o.chains c.args.list)) c.self.view_is)

pub returns-then-passes : goal.returns-then-passes
returns-then-passes g c = λ p fits.
    let way = here _ c.args.self.now c.args.list c.loop-at.at c.in-Some.node c.loop-at.invariant c.in-Some.is in
    let same : c.passes.result ≡ p c.in-Some-version.version.now.txid = fits c.in-Some-version.version.now.txid c.passes.result (search rules) c.passes.ensures in
    found_here _ c.args.self.now c.args.list c.in-Some.node c.in-Some-version.version.now way (sym {b = node_at c.args.self.now.nodes c.in-Some.node} c.in-Some-version.ensures.value) p fits
    (sym same ∙ c.if-passes.true)

pub prev-at-requires : goal.prev-at-requires
prev-at-requires g c =
    let way = here _ c.args.self.now c.args.list c.loop-at.at c.in-Some.node c.loop-at.invariant c.in-Some.is in
    subst (λ (o : OlderView). IsLinked o.chains c.in-Some.node) (sym c.self.view_is) (c.args.list, way.0, way.1, way.2)

pub loop-at-smaller : goal.loop-at-smaller
loop-at-smaller g c =
    let way = here _ c.args.self.now c.args.list c.loop-at.at c.in-Some.node c.loop-at.invariant c.in-Some.is in
    let last : c.prev-at.result ≡ last_of way.0 = c.prev-at.ensures c.args.list way.0 way.1 (subst (λ (o : OlderView). IsBetween o.chains c.args.list way.0 c.in-Some.node way.1) (sym c.self.view_is) way.2) in
    let less = nearer _ c.args.self.now c.args.list c.in-Some.node c.prev-at.result way (subst (λ (o : OlderView). AreApart o.chains) c.self.view_is c.size-size.ensures.apart) last in
    let same = c.in-Some.is in
    rw same less

pub loop-at-preserved : goal.loop-at-preserved
loop-at-preserved g c =
    let way = here _ c.args.self.now c.args.list c.loop-at.at c.in-Some.node c.loop-at.invariant c.in-Some.is in
    let last : c.prev-at.result ≡ last_of way.0 = c.prev-at.ensures c.args.list way.0 way.1 (subst (λ (o : OlderView). IsBetween o.chains c.args.list way.0 c.in-Some.node way.1) (sym c.self.view_is) way.2) in
    past _ c.args.self.now c.args.list c.in-Some.node c.prev-at.result way last
    (elim c.match-version.branch [
      | in-Some-version+else-passes w ↦ λ p fits v is.
          let same : w.passes.result ≡ p w.in-Some-version.version.now.txid = fits w.in-Some-version.version.now.txid w.passes.result (search rules) w.passes.ensures in
          ap (λ (u : Version). p u.txid) (same_Some _ _ (sym is ∙ sym {b = node_at c.args.self.now.nodes c.in-Some.node} w.in-Some-version.ensures.value)) ∙ sym same ∙ w.if-passes.false
      | in_default-version w ↦ λ p fits v is. absurd (cc (sym is ∙ sym {b = node_at c.args.self.now.nodes c.in-Some.node} w.in_default-version.ensures.value))
    ])

pub returns : goal.returns
returns g c = λ p fits. none_ahead _ c.args.self.now c.args.list p fits (subst (IsAhead _ c.args.self.now c.args.list) c.in_default.is c.loop-at.invariant)
