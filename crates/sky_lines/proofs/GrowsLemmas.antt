-- What a source gave in several reads.
use Rattle.std.proofs.Common.{true, false, ◌≡◌, ℕ, ◌+◌, ◌-◌, ◌≤◌, List, [], ◌++◌, length, take, drop, refl, sym, ap, ◌∙◌, arith, append_assoc, append-nil, length-drop, length-take}
use Rattle.std.specs.Prelude.{Option, None, Some, Result, Ok, Err, OnErr}
use Rattle.std.specs.Io.KnownBytes.{Consumes, Keeps, IsAtEnd}
use Rattle.std.proofs.KnownBytes as known
use borrow.Rule.Slice.PartMut.{put_mid, post_of, same_len_mid}
use Rattle.std.proofs.lemmas.Bool.{true≢false}
use Rattle.std.proofs.lemmas.List.{take-append-le, take-take, length-take-le, with_items_is}
use Rattle.std.specs.List.{length_refill}
use Rattle.std.specs.Global.{Vec}
use Rattle.std.specs.Vec.{with_items}
use Rattle.std.specs.Prelude.{slice_range}
use Rattle.std.proofs.Math.Seq.{take-append-add}
use Rattle.sky_lines.specs.Feeds.{has_feed, is_settled, Grows}
use Rattle.sky_lines.specs.Room.{Held}
use Rattle.sky_lines.proofs.FeedLemmas.{unsettled}

-- a piece was read, and then another
pub Grows-both : (old mid new : List ℕ) (before between after : Option (List ℕ)) → Grows old mid before between → Grows mid new between after → Grows old new before after
Grows-both old mid new before between after first second = record {
  got = first.got ++ second.got;
  consumed = known.Consumes-trans before between after first.got second.got first.consumed second.consumed;
  new_is = second.new_is ∙ ap (λ front. front ++ second.got) first.new_is ∙ append_assoc old first.got second.got;
}

-- a piece was read into a room, after what is at its front
pub take-read : (room piece : List ℕ) (len size count : ℕ) → len ≤ length room → count ≤ length piece → take (len + count) (put_mid len size room piece) ≡ take len room ++ take count piece
take-read room piece len size count fits few =
    let front = take len room in
    let long : length front ≡ len = length-take-le len room fits in
    ap (λ n. take (n + count) (put_mid len size room piece)) (sym long)
    ∙ take-append-add front (piece ++ post_of len size room) count
    ∙ ap (λ more. front ++ more) (take-append-le count piece (post_of len size room) few)

-- the same of a vector's bytes
pub bytes_read : (bytes : Vec ℕ) (room piece old : List ℕ) (len size count : ℕ) → length room ≡ bytes.len → len + size ≤ length room → length piece ≡ size → count ≤ length piece → take len room ≡ old
    → slice_range (with_items bytes (put_mid len size room piece)).items 0 (len + count) ≡ old ++ take count piece
bytes_read bytes room piece old len size count fills fits long few front =
    let whole : length (put_mid len size room piece) ≡ bytes.len =
    same_len_mid len size room piece (long ∙ sym (length-take-le size (drop len room) (omega (arith, length-drop len room)))) ∙ fills in
    let end : len + count - 0 ≡ len + count = omega arith in
    ap (λ xs. take (len + count - 0) xs) (with_items_is bytes (put_mid len size room piece) whole)
    ∙ ap (λ n. take n (put_mid len size room piece)) end
    ∙ take-read room piece len size count (omega arith) few ∙ ap (λ xs. xs ++ take count piece) front

-- how much of a room comes before a read
pub length-front : (items old : List ℕ) (start end : ℕ) → slice_range items start end ≡ old → end ≤ length items → is_settled old ≡ false → end - start ≤ 65536
length-front items old start end view within unsure =
    let size : length old ≡ end - start = ap length (sym view) ∙ length-take-le (end - start) (drop start items) (omega (arith, length-drop start items)) in
    let fits = (unsettled old unsure).1 in
    omega arith

-- a piece was read after bytes that were moved to the front for it
pub moved_and_read : (bytes : Vec ℕ) (first moved room piece old : List ℕ) (start end count : ℕ)
    → first ≡ bytes.items → length first ≡ bytes.len → length bytes.items ≡ 131072 → length moved ≡ length first → take (end - start) moved ≡ slice_range first start end
    → room ≡ (with_items bytes moved).items → length room ≡ bytes.len → slice_range bytes.items start end ≡ old → end ≤ length bytes.items → is_settled old ≡ false
    → length piece ≡ length (take (end - start + 65536 - (end - start)) (drop (end - start) room)) → count ≤ length piece
    → slice_range (with_items (with_items bytes moved) (put_mid (end - start) (end - start + 65536 - (end - start)) room piece)).items 0 (end - start + count) ≡ old ++ take count piece
moved_and_read bytes first moved room piece old start end count is fills whole kept at_front room_is room_fills view within unsure long few =
    let len = end - start in
    let same : room ≡ moved = room_is ∙ with_items_is bytes moved (kept ∙ fills) in
    let in_front : take len moved ≡ old = at_front ∙ ap (λ xs. slice_range xs start end) is ∙ view in
    let front : take len room ≡ old = ap (take len) same ∙ in_front in
    let size : length room ≡ 131072 = room_fills ∙ sym fills ∙ ap length is ∙ whole in
    let short : len ≤ 65536 = length-front bytes.items old start end view within unsure in
    let fits : len + (len + 65536 - len) ≤ length room = omega arith in
    bytes_read (with_items bytes moved) room piece old len (len + 65536 - len) count room_fills fits
    (long ∙ length-take-le (len + 65536 - len) (drop len room) (omega (arith, length-drop len room))) few front

-- a read that failed leaves them at the front
pub moved_and_kept : (bytes : Vec ℕ) (first moved room piece old : List ℕ) (start end : ℕ)
    → first ≡ bytes.items → length first ≡ bytes.len → length bytes.items ≡ 131072 → length moved ≡ length first → take (end - start) moved ≡ slice_range first start end
    → room ≡ (with_items bytes moved).items → length room ≡ bytes.len → slice_range bytes.items start end ≡ old → end ≤ length bytes.items → is_settled old ≡ false
    → length piece ≡ length (take (end - start + 65536 - (end - start)) (drop (end - start) room))
    → slice_range (with_items (with_items bytes moved) (put_mid (end - start) (end - start + 65536 - (end - start)) room piece)).items 0 (end - start) ≡ old
moved_and_kept bytes first moved room piece old start end is fills whole kept at_front room_is room_fills view within unsure long =
    let none : end - start ≡ end - start + 0 = omega arith in
    ap (slice_range (with_items (with_items bytes moved) (put_mid (end - start) (end - start + 65536 - (end - start)) room piece)).items 0) none
    ∙ moved_and_read bytes first moved room piece old start end 0 is fills whole kept at_front room_is room_fills view within unsure long (omega arith)
    ∙ append-nil old

-- what is put in a vector's place leaves its length
pub room_stays : (bytes : Vec ℕ) (first moved more : List ℕ) → first ≡ bytes.items → length first ≡ bytes.len → length bytes.items ≡ 131072
    → length (with_items (with_items bytes moved) more).items ≡ 131072
room_stays bytes first moved more is fills whole =
    let size : bytes.len ≡ length bytes.items = sym fills ∙ ap length is in
    sym (length_refill bytes.len (with_items bytes moved).items more (length_refill bytes.len bytes.items moved size)) ∙ size ∙ whole

-- a read gives no more bytes than there was room for
pub piece_fits : (room piece : List ℕ) (len count : ℕ) → length piece ≡ length (take (len + 65536 - len) (drop len room)) → count ≤ length piece → count ≤ 65536
piece_fits room piece len count long few = omega (arith, length-take (len + 65536 - len) (drop len room))

-- the line isn't settled by bytes whose front is what didn't settle it
pub unsettled-front : (bytes shown old : List ℕ) (len count : ℕ) → shown ≡ bytes → slice_range bytes 0 len ≡ old → is_settled old ≡ false → has_feed (take len (take (len + count) shown)) ≡ false
unsettled-front bytes shown old len count is front unsure =
    let end : len ≡ len - 0 = omega arith in
    ap has_feed (take-take len (len + count) shown (omega arith) ∙ ap (take len) is ∙ ap (λ n. take n bytes) end ∙ front) ∙ (unsettled old unsure).0

-- what holds at an error
pub OnErr-always : {T E P : Type 0} (r : Result T E) → P → OnErr r P
OnErr-always (Ok v) holds = tt
OnErr-always (Err e) holds = holds

pub at_most-both : (old mid new : ℕ) → old ≤ mid → mid ≤ new → old ≤ new
at_most-both old mid new first second = omega arith

-- what doesn't settle the line now didn't before, if it is the same
pub never_settled : (old now : Held) → is_settled now.pending ≡ false → is_settled old.pending ≡ true → now ≡ old → ⊥
never_settled old now unsure was same = true≢false (sym was ∙ ap (λ (held : Held). is_settled held.pending) (sym same) ∙ unsure)

-- a read that failed gave nothing
pub Grows-none : (old new : List ℕ) (before after : Option (List ℕ)) → Keeps before after → new ≡ old → Grows old new before after
Grows-none old new before after kept is = record {
  got = [];
  consumed = known.Consumes-kept before before after [] (Consumes-none before) kept;
  new_is = is ∙ sym (append-nil old);
}
  where
    Consumes-none : (before : Option (List ℕ)) → Consumes before before []
    Consumes-none None = tt
    Consumes-none (Some xs) = refl

-- what is left, if the source shows it
pub record Told (left : List ℕ) (after : Option (List ℕ)) (got : List ℕ) : Type 0 where
  pub rest : List ℕ
  pub left_is : left ≡ got ++ rest
  pub after_is : after ≡ Some rest

Consumes-told : (left : List ℕ) (after : Option (List ℕ)) (got : List ℕ) → Consumes (Some left) after got → Told left after got
Consumes-told left None got consumed = absurd consumed
Consumes-told left (Some rest) got consumed = record { rest = rest; left_is = consumed; after_is = refl }

pub Told-consumed : (left : List ℕ) (before after : Option (List ℕ)) (got : List ℕ) → before ≡ Some left → Consumes before after got → Told left after got
Told-consumed left before after got told consumed = let now = rw told at consumed in Consumes-told left after got now

-- at an end that the source shows nothing is left
pub nothing_told : (after : Option (List ℕ)) (rest : List ℕ) → after ≡ Some rest → IsAtEnd after → rest ≡ []
nothing_told after rest told end = rw told at end
