-- Each call for a node leaves what its permit says, from which it is computed what such calls spare.
use Rattle.std.proofs.Common.{◌≡◌, ℕ, ◌+◌, ◌^◌, ◌==◌, nat_le, length, List, [], ◌∷◌, ◌++◌, Bool, true, false, Option, Some, None, is_some, refl}
use Rattle.std.specs.List.{list_any}
use Rattle.sky_val.specs.declared.val.Val.{Val}
use Rattle.sky_model.specs.declared.reply.Limit.TheVariants.{Consumers}
use Rattle.sky_model.specs.declared.reply.Refusal.TheVariants.{ConsumerExists, IdsSpent, TooMany}
use Rattle.sky_model.specs.declared.reply.Reply.TheVariants.{Done, Null, Number}
use Rattle.sky_model.specs.History.{Mark, of_worker, of_copy, began, ended, tabled, wrote, read_only, queued, made, registered, unregistered, opened, closed, traced, untraced, noded, root_made, leaf_made, set_added, set_removed, joined, parted, leaf_added, leaf_removed, state_set, copied, applied, restarted, hold_begun, hold_ended}
use Rattle.sky_model.specs.Queues.{Tick, tick}
use Rattle.sky_model.specs.Consumers.{Subscription}
use Rattle.sky_model.specs.Copies.{copy_txid, Hold}
use Rattle.sky_model.specs.Rows.{Write}
use Rattle.sky_model.specs.State.{RowPart, after_part, Database}
use Rattle.sky_model.specs.Outcome.{Outcome, Checked, ◌>>=◌, ◌>>◌, refused_if, answers, does_marks, marks_of}
use Rattle.sky_model.specs.OwnTransaction.{next_id}
use Rattle.sky_model.specs.StepQueue.{newest_id}
use Rattle.sky_model.specs.StepConsumer.{opens_batch, takes_batch}
use Rattle.sky_model.specs.StepApply.{applies_batch}
use Rattle.sky_model.specs.StepCopy.{copy_write, copy_writes, deletions, insertions, rows_now, begins_copy, all_fit, copies_rows, given_up}
use Rattle.sky_model.specs.CallPermits.{CallMarkKinds, no_call_marks, may_be_left, kinds_of_call}
use Rattle.sky_model.specs.StepNode.{NodeCall, joining, parting, fetching, finishing, making_root, making_leaf, adding, removing, moving, listing, unlisting, beginning_copy, copying_rows, ending_copy, giving_up_copy, applying, holding, letting_go, set_queue, joins, parts, table_number, may_serve, call_form, node_does}
use Rattle.sky_histories.proofs.ApplyCalls.{is_for_applying, gives-applies}
use Rattle.sky_histories.proofs.CopyCalls.{gives-there}
use Rattle.sky_histories.proofs.StatementMarks.{EachMark, each-front, each-given, Gives, gives-map, AnyReply, after, checked, either}

abbrev GivesKinds : CallMarkKinds → Checked Outcome → Type 0
GivesKinds k c = Gives AnyReply (may_be_left k) c

gives-joins : (d : Database) (queue : ℕ) (consumer : List ℕ) → GivesKinds (kinds_of_call (joining consumer)) (joins d queue consumer)
gives-joins d queue consumer = of (is_some ((d.queue queue).sub consumer)) (nat_le 256 (length (d.queue queue).members)) (nat_le (2 ^ 64) (d.last_sub_id + 1))
  where
    of : (there full spent : Bool) → GivesKinds (kinds_of_call (joining consumer)) (refused_if there (ConsumerExists consumer) >> ((refused_if full (TooMany Consumers) >> (refused_if spent IdsSpent
        >> does_marks (Number 1) (queued (registered queue consumer (d.last_sub_id + 1) (newest_id (d.queue queue))) ∷ [])))
        >>= (λ registering. does_marks (Number (newest_id (d.queue queue))) (registering.marks ++ noded (joined consumer) ∷ []))))
    of true full spent = tt
    of false true spent = tt
    of false false true = tt
    of false false false = (tt, tt)

gives-parts : (queue : ℕ) (consumer : List ℕ) (o : Option Subscription) → GivesKinds (kinds_of_call (parting consumer)) (parts queue consumer o)
gives-parts queue consumer None = (tt, tt)
gives-parts queue consumer (Some sub) = (tt, tt)

gives-opens : (d : Database) (queue : ℕ) (consumer : List ℕ) (sub : Subscription) (o : Option Tick) → GivesKinds (kinds_of_call (fetching consumer)) (opens_batch d queue consumer sub o)
gives-opens d queue consumer sub None = (tt, tt)
gives-opens d queue consumer sub (Some closing) = search (after)

gives-takes : (d : Database) (queue : ℕ) (consumer : List ℕ) (sub : Subscription) (o : Option ℕ) → GivesKinds (kinds_of_call (fetching consumer)) (takes_batch d queue consumer sub o)
gives-takes d queue consumer sub (Some batch) = (tt, tt)
gives-takes d queue consumer sub None = gives-opens d queue consumer sub (tick (sub.position + 1) (d.queue queue).tick_list)

for-applying : (mark : Mark) → is_for_applying mark ≡ true → may_be_left (record no_call_marks { works = true; applies = true }) mark ≡ true
for-applying (began of_worker t) e = refl
for-applying (ended of_worker t committed) e = refl
for-applying (tabled (wrote of_worker t table key old new)) e = refl
for-applying (noded (applied pick tick)) e = refl
for-applying _ e = absurd (cc)

-- a copy's writes, and marks after those by which one is given up
each-written : (k : CallMarkKinds) → k.copies_row ≡ true → (d : RowPart) (table t : ℕ) (ws : List Write) → EachMark (may_be_left k) (copy_writes d table t ws)
each-written k copies d table t [] = tt
each-written k copies d table t (w ∷ ws) = each-front (may_be_left k) (copy_write d table t w) _ copies (each-written k copies (after_part d (copy_write d table t w)) table t ws)

pub given_up-then : (p : Mark → Bool) → ((table t : ℕ) → p (ended (of_copy table) t false) ≡ true) → ((name : List ℕ) → p (noded (restarted name)) ≡ true)
    → (table : ℕ) (name : List ℕ) (o : Option ℕ) (marks : List Mark) → EachMark p marks → EachMark p (given_up table name o ++ marks)
given_up-then p ends restarts table name None marks each = each
given_up-then p ends restarts table name (Some t) marks each =
    each-front p (ended (of_copy table) t false) (noded (restarted name) ∷ marks) (ends table t) (each-front p (noded (restarted name)) marks (restarts name) each)

gives-begins : (name : List ℕ) (d : Database) (table : ℕ) (o : Option ℕ) → GivesKinds (kinds_of_call (beginning_copy name)) (begins_copy d table o)
gives-begins name d table (Some t) = (tt, tt)
gives-begins name d table None =
    checked AnyReply _ (next_id d.part) _ (λ t. (tt, each-written (kinds_of_call (beginning_copy name)) refl (after_part d.part (began (of_copy table) t)) table t (deletions (rows_now d.part table))))

gives-rows : (name : List ℕ) (d : Database) (table t : ℕ) (rows : List (List Val)) → GivesKinds (kinds_of_call (copying_rows name rows)) (copies_rows d table t rows)
gives-rows name d table t rows =
    either AnyReply _ (all_fit (d.part.columns table) rows) (does_marks Done (copy_writes d.part table t (insertions (d.part.columns table) rows))) (answers Null)
    (tt, each-written (kinds_of_call (copying_rows name rows)) refl d.part table t (insertions (d.part.columns table) rows)) (tt, tt)

-- each leaves what its line of the table says
gives-kinds : (d : Database) (call : NodeCall) → GivesKinds (kinds_of_call call) (call_form d call)
gives-kinds d (joining consumer) = gives-there _ (set_queue d) _ (λ queue. gives-joins d queue consumer)
gives-kinds d (parting consumer) = gives-there _ (set_queue d) _ (λ queue. gives-parts queue consumer ((d.queue queue).sub consumer))
gives-kinds d (fetching consumer) = gives-there _ (set_queue d) _ (λ queue. gives-there _ ((d.queue queue).sub consumer) _ (λ sub. gives-takes d queue consumer sub sub.active))
gives-kinds d (finishing batch) = gives-there _ (d.batch batch) _ (λ b. (tt, tt))
gives-kinds d (making_root name queue now) = search (after, checked)
gives-kinds d (making_leaf name provider tick) = (tt, tt)
gives-kinds d (adding name) = gives-there _ (table_number d name) _ (λ table. search (after))
gives-kinds d (removing name) = gives-there _ (table_number d name) _ (λ table. (tt, given_up-then _ (λ n t. refl) (λ n. refl) table name (copy_txid table d.copies) _ tt))
gives-kinds d (moving name state) = gives-there _ (table_number d name) _ (λ table. (tt, given_up-then _ (λ n t. refl) (λ n. refl) table name (copy_txid table d.copies) _ tt))
gives-kinds d (listing name) = gives-there _ (set_queue d) _ (λ queue. gives-there _ (table_number d name) _ (λ table. search (after)))
gives-kinds d (unlisting name) = gives-there _ (table_number d name) _ (λ table. (tt, tt))
gives-kinds d (beginning_copy name) = gives-there _ (table_number d name) _ (λ table. gives-begins name d table (copy_txid table d.copies))
gives-kinds d (copying_rows name rows) = gives-there _ (table_number d name) _ (λ table. gives-there _ (copy_txid table d.copies) _ (λ t. gives-rows name d table t rows))
gives-kinds d (ending_copy name snapshot at) = gives-there _ (table_number d name) _ (λ table. gives-there _ (copy_txid table d.copies) _ (λ t. (tt, tt)))
gives-kinds d (giving_up_copy name) = gives-there _ (table_number d name) _ (λ table. (tt, given table (copy_txid table d.copies)))
  where
    given : (table : ℕ) (o : Option ℕ) → EachMark (may_be_left (kinds_of_call (giving_up_copy name))) (given_up table name o)
    given table None = tt
    given table (Some t) = tt
gives-kinds d (applying events pick at) = gives-map AnyReply AnyReply is_for_applying _ (λ reply any. any) for-applying (applies_batch d pick at events) (gives-applies d pick at events)
gives-kinds d holding = (tt, tt)
gives-kinds d (letting_go hold) = either AnyReply _ (list_any (λ (x : Hold). x.number == hold) d.holds) (does_marks Done (noded (hold_ended hold) ∷ [])) (answers Null) (tt, tt) (tt, tt)

-- a test that marks of a call's kinds pass
module _ (p : Mark → Bool) (call : NodeCall) (passes : (mark : Mark) → may_be_left (kinds_of_call call) mark ≡ true → p mark ≡ true) where
  pub gives-call : (d : Database) → Gives AnyReply p (call_form d call)
  gives-call d = gives-map AnyReply AnyReply (may_be_left (kinds_of_call call)) p (λ reply any. any) passes (call_form d call) (gives-kinds d call)

  pub gives-does : (d : Database) → Gives AnyReply p (node_does d call)
  gives-does d = either AnyReply p (may_serve call d.node) (call_form d call) (answers Null) (gives-call d) (tt, tt)

  pub each-does : (d : Database) → EachMark p (marks_of (node_does d call))
  each-does d = each-given AnyReply p (node_does d call) (gives-does d)
