-- Answers, and the lines of one, are printed one after another.
use Rattle.std.proofs.Common.{◌≡◌, ℕ, ◌+◌, ◌<◌, ◌≤◌, List, [], ◌∷◌, ◌++◌, length, take, get_or, map, flat_map, refl, sym, subst, ap, ap₂, ◌∙◌, append_assoc, append-nil, codes}
use Rattle.std.proofs.lemmas.List.{take_more, take_all, get_or_read}
use Rattle.std.proofs.lemmas.List.Elements.{All-get_or}
use Rattle.std.proofs.lemmas.List.Folds.{flat_map-map}
use Rattle.std.proofs.lemmas.Option.{unwrap_or-slice_get}
use Rattle.std.proofs.lemmas.Result.{on_ok_weaker}
use Rattle.std.proofs.lemmas.Grind.{flat_map-append}
use Rattle.std.specs.Prelude.{Result, OnOk}
use Rattle.std.specs.Fmt.{decimal}
use Rattle.sky_val.specs.declared.event.Event.{Event}
use Rattle.sky_model.specs.Moment.{HasMoment}
use Rattle.sky_model.specs.declared.reply.QueueInfo.{QueueInfo}
use Rattle.sky_model.specs.declared.reply.BatchInfo.{BatchInfo}
use Rattle.sky_model.specs.declared.reply.Reply.{Reply}
use Rattle.sky_print.proofs.Keeping.{ok-last, ok-end}
use Rattle.sky_model.specs.Printed.{text_or_null, queue_text, batch_text, count_text, line_text, reply_text, name_at, printed, spaced, HaveNames, EventsHaveMoments, ReplyHasMoments, HaveMoments}

-- after a text, a field's name and the field
field-behind : (old text mid name field new : List ℕ) → mid ≡ old ++ text → new ≡ mid ++ (name ++ field) → new ≡ old ++ (text ++ name ++ field)
field-behind old text mid name field new before behind =
    behind ∙ ap (λ front. front ++ (name ++ field)) before ∙ append_assoc old text (name ++ field) ∙ ap (λ more. old ++ more) (sym (append_assoc text name field))

-- the fields of a batch, one after another
pub batch-printed : (b : BatchInfo) (name who old queue consumer prev_tick tick prev_seq seq : List ℕ) → name ≡ b.queue → who ≡ b.consumer
    → queue ≡ old ++ (codes "queue " ++ name) → consumer ≡ queue ++ (codes " consumer " ++ who)
    → prev_tick ≡ consumer ++ (codes " prev_tick" ++ 32 ∷ decimal b.prev_tick) → tick ≡ prev_tick ++ (codes " tick" ++ 32 ∷ decimal b.tick)
    → prev_seq ≡ tick ++ (codes " prev_seq" ++ 32 ∷ decimal b.prev_seq) → seq ≡ prev_seq ++ (codes " seq" ++ 32 ∷ decimal b.seq) → seq ≡ old ++ batch_text b
batch-printed b name who old queue consumer prev_tick tick prev_seq seq name_is who_is is_queue is_consumer is_prev_tick is_tick is_prev_seq is_seq =
    let to_queue = is_queue ∙ ap (λ n. old ++ (codes "queue " ++ n)) name_is in
    let to_consumer = field-behind old _ queue (codes " consumer ") b.consumer consumer to_queue (is_consumer ∙ ap (λ n. queue ++ (codes " consumer " ++ n)) who_is) in
    let to_prev_tick = field-behind old _ consumer (codes " prev_tick ") (decimal b.prev_tick) prev_tick to_consumer is_prev_tick in
    let to_tick = field-behind old _ prev_tick (codes " tick ") (decimal b.tick) tick to_prev_tick is_tick in
    let to_prev_seq = field-behind old _ tick (codes " prev_seq ") (decimal b.prev_seq) prev_seq to_tick is_prev_seq in
    field-behind old _ prev_seq (codes " seq ") (decimal b.seq) seq to_prev_seq is_seq

-- the fields of a queue
pub queue-printed : {T E : Type 0} (r : Result T E) (q : QueueInfo) (counts old table current last_tick seq new : List ℕ) → counts ≡ q.stored
    → table ≡ old ++ (codes "ntables" ++ 32 ∷ decimal (length counts)) → current ≡ table ++ (codes " cur_table" ++ 32 ∷ decimal q.current)
    → last_tick ≡ current ++ (codes " last_tick" ++ 32 ∷ decimal q.last_tick) → seq ≡ last_tick ++ (codes " seq" ++ 32 ∷ decimal q.seq)
    → OnOk r (new ≡ seq ++ (codes " stored" ++ spaced (map decimal counts))) → OnOk r (new ≡ old ++ queue_text q)
queue-printed r q counts old table current last_tick seq new counts_are is_table is_current is_last_tick is_seq =
    let to_table = is_table ∙ ap (λ xs. old ++ (codes "ntables " ++ decimal (length xs))) counts_are in
    let to_current = field-behind old _ table (codes " cur_table ") (decimal q.current) current to_table is_current in
    let to_last_tick = field-behind old _ current (codes " last_tick ") (decimal q.last_tick) last_tick to_current is_last_tick in
    let to_seq = field-behind old _ last_tick (codes " seq ") (decimal q.seq) seq to_last_tick is_seq in
    on_ok_weaker r (λ is. field-behind old _ seq (codes " stored") (spaced (map decimal q.stored)) new to_seq
    (is ∙ ap (λ xs. seq ++ (codes " stored" ++ spaced (map decimal xs))) counts_are))

-- the texts of an event, one after another
pub texts-printed : {T E : Type 0} (r : Result T E) (e : Event) (old one two three four five new : List ℕ)
    → one ≡ old ++ 32 ∷ text_or_null e.ev_type → two ≡ one ++ 32 ∷ text_or_null e.ev_data → three ≡ two ++ 32 ∷ text_or_null e.ev_extra1
    → four ≡ three ++ 32 ∷ text_or_null e.ev_extra2 → five ≡ four ++ 32 ∷ text_or_null e.ev_extra3
    → OnOk r (new ≡ five ++ 32 ∷ text_or_null e.ev_extra4)
    → OnOk r (new ≡ old ++ spaced (text_or_null e.ev_type ∷ text_or_null e.ev_data ∷ text_or_null e.ev_extra1 ∷ text_or_null e.ev_extra2 ∷ text_or_null e.ev_extra3 ∷ text_or_null e.ev_extra4 ∷ []))
texts-printed r e old one two three four five new is_one is_two is_three is_four is_five last =
    let after_five = 32 ∷ text_or_null e.ev_extra4 ++ [] in
    let after_four = 32 ∷ text_or_null e.ev_extra3 ++ after_five in
    let after_three = 32 ∷ text_or_null e.ev_extra2 ++ after_four in
    let after_two = 32 ∷ text_or_null e.ev_extra1 ++ after_three in
    let after_one = 32 ∷ text_or_null e.ev_data ++ after_two in
    ok-last r old (32 ∷ text_or_null e.ev_type) one new after_one _ is_one refl
    (ok-last r one (32 ∷ text_or_null e.ev_data) two new after_two after_one is_two refl
    (ok-last r two (32 ∷ text_or_null e.ev_extra1) three new after_three after_two is_three refl
    (ok-last r three (32 ∷ text_or_null e.ev_extra2) four new after_four after_three is_four refl
    (ok-last r four (32 ∷ text_or_null e.ev_extra3) five new after_five after_four is_five refl
    (ok-end r five (32 ∷ text_or_null e.ev_extra4) new last)))))

-- the lines of a batch or a table: one for each item, and one for how many they are
pub lines-listed : {A : Type 0} (name : List ℕ) (text : A → List ℕ) (items : List A)
    → flat_map (line_text name) (map text items ++ count_text (length items) ∷ []) ≡ flat_map (λ x. line_text name (text x)) items ++ line_text name (count_text (length items))
lines-listed name text items =
    let count = count_text (length items) in
    flat_map-append (line_text name) (map text items) (count ∷ [])
    ∙ ap (λ lines. lines ++ (line_text name count ++ [])) (flat_map-map (line_text name) text items)
    ∙ ap (λ line. flat_map (λ x. line_text name (text x)) items ++ line) (append-nil (line_text name count))

-- the last line, after those of all items
pub lines-last : {A T E : Type 0} (r : Result T E) (name : List ℕ) (text : A → List ℕ) (items : List A) (i : ℕ) (old mid new : List ℕ)
    → length items ≤ i → mid ≡ old ++ flat_map (λ x. line_text name (text x)) (take i items) → OnOk r (new ≡ mid ++ line_text name (count_text (length items)))
    → OnOk r (new ≡ old ++ flat_map (line_text name) (map text items ++ count_text (length items) ∷ []))
lines-last {A = A} r name text items i old mid new done before =
    let line = λ (x : A). line_text name (text x) in
    ok-last r old (flat_map line items) mid new (line_text name (count_text (length items))) _
    (before ∙ ap (λ xs. old ++ flat_map line xs) (take_all i items done)) (sym (lines-listed name text items))

-- one item more, printed after those before it
pub items-more : {A : Type 0} (text : A → List ℕ) (items : List A) (i : ℕ) (item : A) (old mid new : List ℕ)
    → i < length items → item ≡ get_or items i item → mid ≡ old ++ flat_map text (take i items) → new ≡ mid ++ text item → new ≡ old ++ flat_map text (take (i + 1) items)
items-more text items i item old mid new within is before behind =
    let front = flat_map text (take i items) in
    let all : flat_map text (take (i + 1) items) ≡ front ++ text item =
    ap (flat_map text) (take_more items i item within)
    ∙ flat_map-append text (take i items) (get_or items i item ∷ [])
    ∙ ap (λ last. front ++ last) (append-nil (text (get_or items i item)) ∙ ap text (sym is)) in
    behind ∙ ap (λ start. start ++ text item) before ∙ append_assoc old front (text item) ∙ ap (λ more. old ++ more) (sym all)

-- one word more, after a text that begins with this
pub words-more : {A : Type 0} (first : List ℕ) (text : A → List ℕ) (items : List A) (i : ℕ) (item : A) (old mid new : List ℕ)
    → i < length items → item ≡ get_or items i item → mid ≡ old ++ first ++ spaced (map text (take i items)) → new ≡ mid ++ 32 ∷ text item → new ≡ old ++ first ++ spaced (map text (take (i + 1) items))
words-more {A = A} first text items i item old mid new within is before behind =
    let word = λ (x : A). 32 ∷ text x in
    let whole = λ (n : ℕ). ap (λ words. old ++ first ++ words) (flat_map-map (λ w. 32 ∷ w) text (take n items)) in
    items-more word items i item (old ++ first) mid new within is (before ∙ whole i) behind ∙ sym (whole (i + 1))

-- one answer of those that have names and moments
pub named-at : (names : List (List ℕ)) (replies : List (ℕ × Reply)) (i : ℕ) (answer : ℕ × Reply) → HaveNames names replies → i < length replies → answer ≡ get_or replies i answer → answer.0 < length names
named-at names replies i answer have within is =
    let Named : ℕ × Reply → Type 0 = λ a. a.0 < length names in
    subst Named (sym is) (All-get_or Named replies i answer within have)

pub moments-at : (replies : List (ℕ × Reply)) (i : ℕ) (answer : ℕ × Reply) → HaveMoments replies → i < length replies → answer ≡ get_or replies i answer → ReplyHasMoments answer.1
moments-at replies i answer have within is =
    let Timed : ℕ × Reply → Type 0 = λ a. ReplyHasMoments a.1 in
    subst Timed (sym is) (All-get_or Timed replies i answer within have)

pub moment-at : (events : List Event) (i : ℕ) (event : Event) → EventsHaveMoments events → i < length events → event ≡ get_or events i event → HasMoment event.ev_time
moment-at events i event have within is =
    let Timed : Event → Type 0 = λ e. HasMoment e.ev_time in
    subst Timed (sym is) (All-get_or Timed events i event within have)

-- one answer more
pub printed-take : (names : List (List ℕ)) (replies : List (ℕ × Reply)) (i : ℕ) (d : ℕ × Reply) → i < length replies
    → printed names (take (i + 1) replies) ≡ printed names (take i replies) ++ reply_text names (name_at names (get_or replies i d).0) (get_or replies i d).1
printed-take names replies i d within =
    let text : ℕ × Reply → List ℕ = λ answer. reply_text names (name_at names answer.0) answer.1 in
    ap (printed names) (take_more replies i d within)
    ∙ flat_map-append text (take i replies) (get_or replies i d ∷ [])
    ∙ ap (λ last. printed names (take i replies) ++ last) (append-nil (text (get_or replies i d)))

-- an answer, printed after those before it and by its session's name
pub printed-more : (names : List (List ℕ)) (replies : List (ℕ × Reply)) (i : ℕ) (answer : ℕ × Reply) (name bytes old mid new : List ℕ)
    → HaveNames names replies → i < length replies → answer ≡ get_or replies i answer → name ≡ get_or names answer.0 name → bytes ≡ name
    → mid ≡ old ++ printed names (take i replies) → new ≡ mid ++ reply_text names bytes answer.1 → new ≡ old ++ printed names (take (i + 1) replies)
printed-more names replies i answer name bytes old mid new have within is name_is bytes_are before behind =
    let named = named-at names replies i answer have within is in
    let by_name = bytes_are ∙ get_or_read names answer.0 name named name_is [] ∙ sym (unwrap_or-slice_get names answer.0 []) in
    let text : ℕ × Reply → List ℕ = λ a. reply_text names (name_at names a.0) a.1 in
    let all : printed names (take i replies) ++ text answer ≡ printed names (take (i + 1) replies) =
    ap (λ last. printed names (take i replies) ++ last) (ap text is) ∙ sym (printed-take names replies i answer within) in
    behind
    ∙ ap₂ (λ front who. front ++ reply_text names who answer.1) before by_name
    ∙ append_assoc old (printed names (take i replies)) (text answer)
    ∙ ap (λ more. old ++ more) all
