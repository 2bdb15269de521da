-- Statements in form, and some that no line can say.
use Rattle.std.proofs.Common.{◌≡◌, ◌^◌, pos, true, [], ◌∷◌, refl, arith, codes}
use Rattle.std.proofs.lemmas.List.Elements.{All-nil, All-cons, All-head}
use Rattle.std.proofs.lemmas.List.Sums.{AllPass-from_list_all}
use Rattle.std.proofs.lemmas.Str.{IsUtf8-from_is_utf8}
use Rattle.std.specs.Str.{is_utf8, chars}
use Rattle.std.specs.Char.{encode_utf8}
use Rattle.sky_val.specs.declared.val.Val.TheVariants.{Null, Int, Text}
use Rattle.sky_val.specs.declared.column.ColKind.TheVariants as kind
use Rattle.sky_model.specs.declared.stmt.RowStmt.TheVariants.{OpenDb, TxidVisibleInSnapshot, CreateTable, Insert}
use Rattle.sky_model.specs.declared.stmt.QueueStmt.TheVariants.{SetQueueConfig, AddTrigger, GetBatchEvents}
use Rattle.sky_model.specs.declared.stmt.WorldStmt.TheVariants.{Clock}
use Rattle.sky_model.specs.Kinds.{Name, Column, Value, is_text_byte}
use Rattle.sky_model.specs.InForm.{IsQuotable, IsOf, IsRowInForm, IsQueueInForm, IsWorldInForm}

-- it's
quotable : IsQuotable (codes "it's")
unfolding is_utf8 chars encode_utf8
quotable = record { characters = IsUtf8-from_is_utf8 (codes "it's") refl; free = AllPass-from_list_all is_text_byte (codes "it's") refl }

-- insert app.t 1 'it''s' null
insert : IsRowInForm (Insert (codes "app.t") (Int (pos 1) ∷ Text (codes "it's") ∷ Null ∷ []))
insert = (
  refl,
  (
    omega arith,
    All-cons (IsOf Value) (Int (pos 1)) (Text (codes "it's") ∷ Null ∷ []) (record { sfits = omega arith })
        (All-cons (IsOf Value) (Text (codes "it's")) (Null ∷ []) quotable (All-cons (IsOf Value) Null [] tt (All-nil (IsOf Value)))),
  ),
)

-- add_trigger w t q backup ignore=v
add_trigger : IsQueueInForm (AddTrigger (record { name = codes "w"; table = codes "t"; queue = codes "q"; backup = true; ignored = codes "v" ∷ [] }))
add_trigger = (refl, refl, refl, All-cons (IsOf Name) (codes "v") [] refl (All-nil (IsOf Name)))

-- set_queue_config q 'it''s' 'it''s', of which the database says that there is no such parameter
set_queue_config : IsQueueInForm (SetQueueConfig (record { queue = codes "q"; param = codes "it's"; value = codes "it's" }))
set_queue_config = (refl, quotable, quotable)

-- clock +1day
day : IsWorldInForm (Clock (pos 86_400_000_000))
day = (omega arith, omega arith)

-- no time, and a microsecond more than a day
no_time : IsWorldInForm (Clock (pos 0)) → ⊥
no_time is = omega arith

time_too_long : IsWorldInForm (Clock (pos 86_400_000_001)) → ⊥
time_too_long is = omega arith

-- a number of more than 64 bits
too_large : IsRowInForm (Insert (codes "t") (Int (pos (2 ^ 70)) ∷ [])) → ⊥
too_large is = let fits = All-head (IsOf Value) (Int (pos (2 ^ 70))) [] is.1.1 in omega (arith, fits.sfits)

batch_too_large : IsQueueInForm (GetBatchEvents (2 ^ 64)) → ⊥
batch_too_large is = omega arith

-- no value at all
no_values : IsRowInForm (Insert (codes "t") []) → ⊥
no_values is = omega (arith, is.1.0)

-- a name with a capital letter, and an empty one
capital : IsRowInForm (OpenDb (codes "P")) → ⊥
capital is = cc

unnamed : IsRowInForm (CreateTable (codes "t") (record { name = []; kind = kind.Int; key = true } ∷ [])) → ⊥
unnamed is = let named = All-head (IsOf Column) (record { name = []; kind = kind.Int; key = true }) [] is.1.1 in cc

-- a text with a line feed
line_feed : IsRowInForm (TxidVisibleInSnapshot 9 (10 ∷ [])) → ⊥
line_feed is = let free = All-head (λ b. is_text_byte b ≡ true) 10 [] is.1.free in cc
