-- Which refusals are printed with fields.
use Rattle.std.specs.Prelude.{Bool, true, false}
use Rattle.sky_model.specs.declared.reply.Refusal.{Refusal}
use Rattle.sky_model.specs.declared.reply.Refusal.TheVariants.{Aborted, AlreadyInSet, AlreadyOpen, BadSnapshot, Busy, Canceled, ClockSpent, ConsumerExists, Duplicate, EventIdsSpent, IdsSpent, InTransaction, NoBatch, NodeConsumer, NodeExists, NoEvent, NoKey, NoNode, NotInSet, NotLeaf, NotOpen, NotProvider, QueueExists, ReadOnly, ReservedType, SchemaDiffers, SetQueue, TableInUse, TxidsSpent}

-- a refusal's name is all that is printed of it
abbrev pub has_no_field : Refusal → Bool
has_no_field Aborted = true
has_no_field AlreadyOpen = true
has_no_field BadSnapshot = true
has_no_field Busy = true
has_no_field Canceled = true
has_no_field ClockSpent = true
has_no_field Duplicate = true
has_no_field EventIdsSpent = true
has_no_field IdsSpent = true
has_no_field InTransaction = true
has_no_field NoBatch = true
has_no_field NoEvent = true
has_no_field NodeConsumer = true
has_no_field NoKey = true
has_no_field NotOpen = true
has_no_field ReadOnly = true
has_no_field ReservedType = true
has_no_field SetQueue = true
has_no_field TxidsSpent = true
has_no_field _ = false

-- a refusal is one on nodes, of which a name is printed too
abbrev pub is_on_node : Refusal → Bool
is_on_node (AlreadyInSet name) = true
is_on_node (ConsumerExists name) = true
is_on_node (NodeExists name) = true
is_on_node (NoNode name) = true
is_on_node (NotInSet name) = true
is_on_node (NotLeaf name) = true
is_on_node (NotProvider name) = true
is_on_node (QueueExists name) = true
is_on_node (SchemaDiffers name) = true
is_on_node (TableInUse name) = true
is_on_node _ = false
