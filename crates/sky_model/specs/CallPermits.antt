-- Which kinds of marks a database may leave by each call for a node. The table of the statements that a database runs by itself is in Permits.
use Rattle.std.specs.Prelude.{Bool, true, false, None}
use Rattle.sky_model.specs.History.{Mark, of_worker, of_copy, began, ended, tabled, wrote, read_only, queued, made, registered, unregistered, opened, closed, traced, untraced, noded, root_made, leaf_made, set_added, set_removed, joined, parted, leaf_added, leaf_removed, state_set, copied, applied, restarted, hold_begun, hold_ended}
use Rattle.sky_model.specs.StepNode.{NodeCall, joining, parting, fetching, finishing, making_root, making_leaf, adding, removing, moving, listing, unlisting, beginning_copy, copying_rows, ending_copy, giving_up_copy, applying, holding, letting_go}

-- ---- kinds of marks

-- which kinds of marks a call for a node may leave
pub record CallMarkKinds : Type 0 where
  -- a consumer joins; it leaves; it takes a batch; one is finished
  pub joins : Bool
  pub parts : Bool
  pub takes : Bool
  pub finishes : Bool
  -- a worker's transaction begins and ends; a batch is applied
  pub works : Bool
  pub applies : Bool
  -- a root is made, with its queue; a leaf
  pub makes_root : Bool
  pub makes_leaf : Bool
  -- a table joins a leaf; it leaves; it goes into a state
  pub adds : Bool
  pub removes : Bool
  pub moves : Bool
  -- a table joins a set; it leaves
  pub lists : Bool
  pub unlists : Bool
  -- a copy begins; it writes a row; it ends; it is given up
  pub begins_copy : Bool
  pub copies_row : Bool
  pub ends_copy : Bool
  pub gives_up : Bool
  -- a snapshot is held; it is let go
  pub holds : Bool
  pub lets_go : Bool

abbrev pub no_call_marks : CallMarkKinds
no_call_marks = record {
  joins = false;
  parts = false;
  takes = false;
  finishes = false;
  works = false;
  applies = false;
  makes_root = false;
  makes_leaf = false;
  adds = false;
  removes = false;
  moves = false;
  lists = false;
  unlists = false;
  begins_copy = false;
  copies_row = false;
  ends_copy = false;
  gives_up = false;
  holds = false;
  lets_go = false;
}

-- whether a call of such kinds may leave a mark
abbrev pub may_be_left : CallMarkKinds → Mark → Bool
may_be_left k (queued (registered q name sub tick)) = k.joins
may_be_left k (noded (joined consumer)) = k.joins
may_be_left k (queued (unregistered q name sub)) = k.parts
may_be_left k (noded (parted consumer)) = k.parts
may_be_left k (queued (opened batch)) = k.takes
may_be_left k (queued (closed batch)) = k.finishes
may_be_left k (began of_worker t) = k.works
may_be_left k (ended of_worker t committed) = k.works
may_be_left k (tabled (wrote of_worker t table key old new)) = k.applies
may_be_left k (noded (applied pick tick)) = k.applies
may_be_left k (queued (made name t time)) = k.makes_root
may_be_left k (noded (root_made name queue)) = k.makes_root
may_be_left k (noded (leaf_made name provider tick)) = k.makes_leaf
may_be_left k (noded (leaf_added table)) = k.adds
may_be_left k (tabled (read_only table true)) = k.adds
may_be_left k (noded (leaf_removed table)) = k.removes
may_be_left k (tabled (read_only table false)) = k.removes
may_be_left k (noded (state_set table state)) = k.moves
may_be_left k (noded (set_added table)) = k.lists
may_be_left k (queued (traced table None trigger)) = k.lists
may_be_left k (noded (set_removed table)) = k.unlists
may_be_left k (queued (untraced table)) = k.unlists
may_be_left k (began (of_copy table) t) = k.begins_copy
may_be_left k (tabled (wrote (of_copy n) t table key old new)) = k.copies_row
may_be_left k (ended (of_copy table) t true) = k.ends_copy
may_be_left k (noded (copied table snapshot tick)) = k.ends_copy
may_be_left k (ended (of_copy table) t false) = k.gives_up
may_be_left k (noded (restarted table)) = k.gives_up
may_be_left k (noded (hold_begun hold)) = k.holds
may_be_left k (noded (hold_ended hold)) = k.lets_go
may_be_left k _ = false

-- ---- the calls

abbrev pub kinds_of_call : NodeCall → CallMarkKinds
kinds_of_call (joining consumer) = record no_call_marks { joins = true }
kinds_of_call (parting consumer) = record no_call_marks { parts = true }
kinds_of_call (fetching consumer) = record no_call_marks { takes = true }
kinds_of_call (finishing batch) = record no_call_marks { finishes = true }
kinds_of_call (making_root name queue now) = record no_call_marks { works = true; makes_root = true }
kinds_of_call (making_leaf name provider tick) = record no_call_marks { makes_leaf = true }
kinds_of_call (adding table) = record no_call_marks { adds = true }
kinds_of_call (removing table) = record no_call_marks { removes = true; gives_up = true }
kinds_of_call (moving table state) = record no_call_marks { moves = true; gives_up = true }
kinds_of_call (listing table) = record no_call_marks { lists = true }
kinds_of_call (unlisting table) = record no_call_marks { unlists = true }
kinds_of_call (beginning_copy table) = record no_call_marks { begins_copy = true; copies_row = true }
kinds_of_call (copying_rows table rows) = record no_call_marks { copies_row = true }
kinds_of_call (ending_copy table snapshot tick) = record no_call_marks { ends_copy = true }
kinds_of_call (giving_up_copy table) = record no_call_marks { gives_up = true }
kinds_of_call (applying events pick tick) = record no_call_marks { works = true; applies = true }
kinds_of_call holding = record no_call_marks { holds = true }
kinds_of_call (letting_go hold) = record no_call_marks { lets_go = true }
