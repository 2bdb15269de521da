use Rattle.std.proofs.Common.{◌∙◌, ap, sym}
use Rattle.sky_keys.specs.Versions.{version_of}
use Rattle.sky_rows.specs.Rows.{RowsView, key_at, rows_in}
use Rattle.sky_rows.proofs.PlaceLemmas.{ok_then, either_own, own_found, own_placed, own_set, none_kept, has_slot, view_order, found_there}
use Rattle.sky_rows.proofs.RowChanges.{used_at, one_at, versions_found, put_own, put_ok, put_err, insert_own, insert_all}
use Rattle.sky_rows.proofs.rows.Rows.put.Goals as goal

pub returns-in_default-clause-ok : goal.returns-in_default-clause-ok
returns-in_default-clause-ok c =
    ok_then c.insert.result (λ is. insert_all c.args.version.txid c.args.key c.args.version.row c.args.older.now (rows_in c.args.self.now) c.first.result
    (none_kept c.args.self.now.slots c.args.self.now.places c.args.key (sym c.requires.place ∙ c.in_default.is)) c.first.ensures.list c.first.ensures.newest (rows_in c.insert.new.self) is) c.insert.ensures.ok

pub returns-in_default-clause-own : goal.returns-in_default-clause-own
returns-in_default-clause-own c =
    either_own c.insert.result c.args.older.now (rows_in c.args.self.now) (rows_in c.insert.new.self) c.requires.own
    (ok_then c.insert.result (λ is. insert_own c.args.version.txid c.args.key c.args.version.row c.args.older.now (rows_in c.args.self.now) c.first.result
    (none_kept c.args.self.now.slots c.args.self.now.places c.args.key (sym c.requires.place ∙ c.in_default.is)) c.first.ensures.list c.first.ensures.newest (rows_in c.insert.new.self) is c.requires.own) c.insert.ensures.ok)
    c.insert.ensures.err

pub index_mut-slot-requires : goal.index_mut-slot-requires
index_mut-slot-requires c = has_slot c.self.inside.slots c.in-Some.place c.args.key (ap (λ (r : RowsView). key_at r.slots c.in-Some.place) c.self.view_is ∙ found_there c.self.inside.slots c.self.inside.places.entries c.args.self.now c.self.view_is c.self.invariant c.args.place c.args.key c.in-Some.place c.requires.place c.in-Some.is)

pub write-requires-clause-used : goal.write-requires-clause-used
write-requires-clause-used c = used_at c.args.older.now c.args.key (rows_in c.args.self.now) c.index_mut-slot.result.now.kept c.requires.own (own_found c.self.inside.slots c.self.inside.places.entries c.args.self.now c.self.view_is c.self.invariant c.in-Some.place c.index_mut-slot.result.now c.index_mut-slot.ensures.value c.args.key (found_there c.self.inside.slots c.self.inside.places.entries c.args.self.now c.self.view_is c.self.invariant c.args.place c.args.key c.in-Some.place c.requires.place c.in-Some.is))

pub write-requires-clause-one : goal.write-requires-clause-one
write-requires-clause-one c = one_at c.args.older.now c.args.key (rows_in c.args.self.now) c.index_mut-slot.result.now.kept c.requires.own (own_found c.self.inside.slots c.self.inside.places.entries c.args.self.now c.self.view_is c.self.invariant c.in-Some.place c.index_mut-slot.result.now c.index_mut-slot.ensures.value c.args.key (found_there c.self.inside.slots c.self.inside.places.entries c.args.self.now c.self.view_is c.self.invariant c.args.place c.args.key c.in-Some.place c.requires.place c.in-Some.is))

pub invariant_of-self : goal.invariant_of-self
invariant_of-self c = own_placed c.self.inside.slots c.self.inside.places.entries c.args.self.now c.self.view_is c.self.invariant c.in-Some.place c.index_mut-slot.result.now c.index_mut-slot.ensures.value c.args.key (found_there c.self.inside.slots c.self.inside.places.entries c.args.self.now c.self.view_is c.self.invariant c.args.place c.args.key c.in-Some.place c.requires.place c.in-Some.is) c.write.new.self

pub returns-then-again-clause-ok : goal.returns-then-again-clause-ok
returns-then-again-clause-ok c =
    put_ok c.args.version.txid c.args.key c.args.version.row c.args.older.now c.write.new.older (rows_in c.args.self.now) c.index_mut-slot.result.now.kept c.write.new.self
    (view_order c.self.inside.slots c.self.inside.places.entries c.args.self.now c.self.view_is c.self.invariant) c.requires.own (own_found c.self.inside.slots c.self.inside.places.entries c.args.self.now c.self.view_is c.self.invariant c.in-Some.place c.index_mut-slot.result.now c.index_mut-slot.ensures.value c.args.key (found_there c.self.inside.slots c.self.inside.places.entries c.args.self.now c.self.view_is c.self.invariant c.args.place c.args.key c.in-Some.place c.requires.place c.in-Some.is))
    c.write.ensures.moves c.write.result c.write.ensures.ok c.write.ensures.err _ (own_set c.self.inside.slots c.self.inside.places.entries c.args.self.now c.self.view_is c.self.invariant c.in-Some.place c.index_mut-slot.result.now c.index_mut-slot.ensures.value c.args.key (found_there c.self.inside.slots c.self.inside.places.entries c.args.self.now c.self.view_is c.self.invariant c.args.place c.args.key c.in-Some.place c.requires.place c.in-Some.is) c.write.new.self)

pub returns-then-again-clause-err : goal.returns-then-again-clause-err
returns-then-again-clause-err c =
    put_err c.args.version.txid c.args.key c.args.version.row c.args.older.now c.write.new.older (rows_in c.args.self.now) c.index_mut-slot.result.now.kept c.write.new.self
    (view_order c.self.inside.slots c.self.inside.places.entries c.args.self.now c.self.view_is c.self.invariant) c.requires.own (own_found c.self.inside.slots c.self.inside.places.entries c.args.self.now c.self.view_is c.self.invariant c.in-Some.place c.index_mut-slot.result.now c.index_mut-slot.ensures.value c.args.key (found_there c.self.inside.slots c.self.inside.places.entries c.args.self.now c.self.view_is c.self.invariant c.args.place c.args.key c.in-Some.place c.requires.place c.in-Some.is))
    c.write.ensures.moves c.write.result c.write.ensures.ok c.write.ensures.err _ (own_set c.self.inside.slots c.self.inside.places.entries c.args.self.now c.self.view_is c.self.invariant c.in-Some.place c.index_mut-slot.result.now c.index_mut-slot.ensures.value c.args.key (found_there c.self.inside.slots c.self.inside.places.entries c.args.self.now c.self.view_is c.self.invariant c.args.place c.args.key c.in-Some.place c.requires.place c.in-Some.is) c.write.new.self)

pub returns-then-again-clause-own : goal.returns-then-again-clause-own
returns-then-again-clause-own c =
    put_own c.args.version.txid c.args.key c.args.version.row c.args.older.now c.write.new.older (rows_in c.args.self.now) c.index_mut-slot.result.now.kept c.write.new.self
    (view_order c.self.inside.slots c.self.inside.places.entries c.args.self.now c.self.view_is c.self.invariant) c.requires.own (own_found c.self.inside.slots c.self.inside.places.entries c.args.self.now c.self.view_is c.self.invariant c.in-Some.place c.index_mut-slot.result.now c.index_mut-slot.ensures.value c.args.key (found_there c.self.inside.slots c.self.inside.places.entries c.args.self.now c.self.view_is c.self.invariant c.args.place c.args.key c.in-Some.place c.requires.place c.in-Some.is))
    c.write.ensures.moves c.write.result c.write.ensures.ok c.write.ensures.err _ (own_set c.self.inside.slots c.self.inside.places.entries c.args.self.now c.self.view_is c.self.invariant c.in-Some.place c.index_mut-slot.result.now c.index_mut-slot.ensures.value c.args.key (found_there c.self.inside.slots c.self.inside.places.entries c.args.self.now c.self.view_is c.self.invariant c.args.place c.args.key c.in-Some.place c.requires.place c.in-Some.is) c.write.new.self)

pub push-requires-clause-used : goal.push-requires-clause-used
push-requires-clause-used c = used_at c.args.older.now c.args.key (rows_in c.args.self.now) c.index_mut-slot.result.now.kept c.requires.own (own_found c.self.inside.slots c.self.inside.places.entries c.args.self.now c.self.view_is c.self.invariant c.in-Some.place c.index_mut-slot.result.now c.index_mut-slot.ensures.value c.args.key (found_there c.self.inside.slots c.self.inside.places.entries c.args.self.now c.self.view_is c.self.invariant c.args.place c.args.key c.in-Some.place c.requires.place c.in-Some.is))

pub push-requires-clause-first : goal.push-requires-clause-first
push-requires-clause-first c = ap (version_of c.args.version.txid) (sym (versions_found c.args.older.now c.args.key (rows_in c.args.self.now) c.index_mut-slot.result.now.kept (own_found c.self.inside.slots c.self.inside.places.entries c.args.self.now c.self.view_is c.self.invariant c.in-Some.place c.index_mut-slot.result.now c.index_mut-slot.ensures.value c.args.key (found_there c.self.inside.slots c.self.inside.places.entries c.args.self.now c.self.view_is c.self.invariant c.args.place c.args.key c.in-Some.place c.requires.place c.in-Some.is)))) ∙ c.requires.first c.if-again.false

pub invariant_of-self-2 : goal.invariant_of-self-2
invariant_of-self-2 c = own_placed c.self.inside.slots c.self.inside.places.entries c.args.self.now c.self.view_is c.self.invariant c.in-Some.place c.index_mut-slot.result.now c.index_mut-slot.ensures.value c.args.key (found_there c.self.inside.slots c.self.inside.places.entries c.args.self.now c.self.view_is c.self.invariant c.args.place c.args.key c.in-Some.place c.requires.place c.in-Some.is) c.push.new.self

pub returns-clause-ok : goal.returns-clause-ok
returns-clause-ok c =
    put_ok c.args.version.txid c.args.key c.args.version.row c.args.older.now c.push.new.older (rows_in c.args.self.now) c.index_mut-slot.result.now.kept c.push.new.self
    (view_order c.self.inside.slots c.self.inside.places.entries c.args.self.now c.self.view_is c.self.invariant) c.requires.own (own_found c.self.inside.slots c.self.inside.places.entries c.args.self.now c.self.view_is c.self.invariant c.in-Some.place c.index_mut-slot.result.now c.index_mut-slot.ensures.value c.args.key (found_there c.self.inside.slots c.self.inside.places.entries c.args.self.now c.self.view_is c.self.invariant c.args.place c.args.key c.in-Some.place c.requires.place c.in-Some.is))
    c.push.ensures.moves c.push.result c.push.ensures.ok c.push.ensures.err _ (own_set c.self.inside.slots c.self.inside.places.entries c.args.self.now c.self.view_is c.self.invariant c.in-Some.place c.index_mut-slot.result.now c.index_mut-slot.ensures.value c.args.key (found_there c.self.inside.slots c.self.inside.places.entries c.args.self.now c.self.view_is c.self.invariant c.args.place c.args.key c.in-Some.place c.requires.place c.in-Some.is) c.push.new.self)

pub returns-clause-err : goal.returns-clause-err
returns-clause-err c =
    put_err c.args.version.txid c.args.key c.args.version.row c.args.older.now c.push.new.older (rows_in c.args.self.now) c.index_mut-slot.result.now.kept c.push.new.self
    (view_order c.self.inside.slots c.self.inside.places.entries c.args.self.now c.self.view_is c.self.invariant) c.requires.own (own_found c.self.inside.slots c.self.inside.places.entries c.args.self.now c.self.view_is c.self.invariant c.in-Some.place c.index_mut-slot.result.now c.index_mut-slot.ensures.value c.args.key (found_there c.self.inside.slots c.self.inside.places.entries c.args.self.now c.self.view_is c.self.invariant c.args.place c.args.key c.in-Some.place c.requires.place c.in-Some.is))
    c.push.ensures.moves c.push.result c.push.ensures.ok c.push.ensures.err _ (own_set c.self.inside.slots c.self.inside.places.entries c.args.self.now c.self.view_is c.self.invariant c.in-Some.place c.index_mut-slot.result.now c.index_mut-slot.ensures.value c.args.key (found_there c.self.inside.slots c.self.inside.places.entries c.args.self.now c.self.view_is c.self.invariant c.args.place c.args.key c.in-Some.place c.requires.place c.in-Some.is) c.push.new.self)

pub returns-clause-own : goal.returns-clause-own
returns-clause-own c =
    put_own c.args.version.txid c.args.key c.args.version.row c.args.older.now c.push.new.older (rows_in c.args.self.now) c.index_mut-slot.result.now.kept c.push.new.self
    (view_order c.self.inside.slots c.self.inside.places.entries c.args.self.now c.self.view_is c.self.invariant) c.requires.own (own_found c.self.inside.slots c.self.inside.places.entries c.args.self.now c.self.view_is c.self.invariant c.in-Some.place c.index_mut-slot.result.now c.index_mut-slot.ensures.value c.args.key (found_there c.self.inside.slots c.self.inside.places.entries c.args.self.now c.self.view_is c.self.invariant c.args.place c.args.key c.in-Some.place c.requires.place c.in-Some.is))
    c.push.ensures.moves c.push.result c.push.ensures.ok c.push.ensures.err _ (own_set c.self.inside.slots c.self.inside.places.entries c.args.self.now c.self.view_is c.self.invariant c.in-Some.place c.index_mut-slot.result.now c.index_mut-slot.ensures.value c.args.key (found_there c.self.inside.slots c.self.inside.places.entries c.args.self.now c.self.view_is c.self.invariant c.args.place c.args.key c.in-Some.place c.requires.place c.in-Some.is) c.push.new.self)
