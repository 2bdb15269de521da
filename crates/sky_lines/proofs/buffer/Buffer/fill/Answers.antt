use Rattle.std.proofs.Common.{◌≡◌, ◌+◌, ◌-◌, ◌∙◌, refl, ap, sym, subst, arith, length, take, drop, slice_range, length-append, length-drop, length-take-le}
use Rattle.std.specs.Str.{IsAscii}
use Rattle.std.proofs.lemmas.Str.Ascii.{IsAscii-nil}
use Rattle.sky_lines.specs.Feeds.{IsFirstFeed}
use Rattle.sky_lines.specs.Room.{Held}
use Rattle.sky_lines.proofs.AsciiLemmas.{IsAscii-grown}
use Rattle.sky_lines.proofs.GrowsLemmas.{moved_and_read, moved_and_kept, room_stays, length-front, piece_fits, unsettled-front, OnErr-always, Grows-none}
use Rattle.sky_lines.proofs.buffer.Buffer.fill.Goals as goal

pub invariant_of-self-2 : goal.invariant_of-self-2
invariant_of-self-2 g c =
    let buffer = c.self.inside in
    let held = c.self.invariant.0 in
    let count = c.in_ok-count.count in
    let len = buffer.end - buffer.start in
    let view : slice_range buffer.bytes.items buffer.start buffer.end ≡ c.args.self.now.pending = ap (λ (h : Held). h.pending) c.self.view_is in
    let size : length c.args.self.now.pending ≡ len =
    ap length (sym view) ∙ length-take-le len (drop buffer.start buffer.bytes.items) (omega (arith, held.within, length-drop buffer.start buffer.bytes.items)) in
    let grown = moved_and_read buffer.bytes c.deref_mut.result.now c.move_to_front.new.bytes c.deref_mut-2.result.now c.read.new.buf c.args.self.now.pending buffer.start buffer.end count
    c.deref_mut.ensures.value c.deref_mut.ensures.len held.room c.move_to_front.auto.bytes c.move_to_front.ensures c.deref_mut-2.ensures.value c.deref_mut-2.ensures.len
    view held.within c.requires c.read.auto.buf c.in_ok-count.ensures.at_most.0 in
    let end : len + count ≡ len + count - 0 = omega arith in
    let feed = c.feed_behind-self-inside.result in
    let searched : IsFirstFeed (take (len + count - 0) c.deref-2.result.now) feed = subst (λ n. IsFirstFeed (take n c.deref-2.result.now) feed) end c.feed_behind-self-inside.ensures in
    let room = room_stays buffer.bytes c.deref_mut.result.now c.move_to_front.new.bytes _ c.deref_mut.ensures.value c.deref_mut.ensures.len held.room in
    let short = length-front buffer.bytes.items c.args.self.now.pending buffer.start buffer.end view held.within c.requires in
    let few = piece_fits c.deref_mut-2.result.now c.read.new.buf len count c.read.auto.buf c.in_ok-count.ensures.at_most.0 in (
      record {
        room = room;
        in_order = omega arith;
        within = omega (arith, room);
        known = subst (λ xs. IsFirstFeed (take (len + count - 0) xs) feed) c.deref-2.ensures.value searched;
        line_in_order = omega arith;
        line_within = omega arith;
      },
      λ ascii.
          let tested = c.still_ascii-self-inside.ensures ascii in
          let last : IsAscii (drop len (take (len + count - 0) c.deref.result.now)) = subst (λ n. IsAscii (drop len (take n c.deref.result.now))) end tested.1 in
          let more = subst (λ xs. IsAscii (drop len (take (len + count - 0) xs))) c.deref.ensures.value last in
          (IsAscii-grown _ _ _ len grown size (c.has_ascii-self-inside.ensures tested.0) more, IsAscii-nil),
    )

pub invariant_of-self : goal.invariant_of-self
invariant_of-self g c =
    let buffer = c.self.inside in
    let held = c.self.invariant.0 in
    let view : slice_range buffer.bytes.items buffer.start buffer.end ≡ c.args.self.now.pending = ap (λ (h : Held). h.pending) c.self.view_is in
    let kept = moved_and_kept buffer.bytes c.deref_mut.result.now c.move_to_front.new.bytes c.deref_mut-2.result.now c.read.new.buf c.args.self.now.pending buffer.start buffer.end
    c.deref_mut.ensures.value c.deref_mut.ensures.len held.room c.move_to_front.auto.bytes c.move_to_front.ensures c.deref_mut-2.ensures.value c.deref_mut-2.ensures.len
    view held.within c.requires c.read.auto.buf in
    let room = room_stays buffer.bytes c.deref_mut.result.now c.move_to_front.new.bytes _ c.deref_mut.ensures.value c.deref_mut.ensures.len held.room in
    let short = length-front buffer.bytes.items c.args.self.now.pending buffer.start buffer.end view held.within c.requires in (
      record {
        room = room;
        in_order = omega arith;
        within = omega (arith, room);
        known = subst (λ xs. IsFirstFeed xs buffer.feed) (view ∙ sym kept) held.known;
        line_in_order = omega arith;
        line_within = omega arith;
      },
      λ ascii. (subst IsAscii (sym kept) (c.has_ascii-self-inside.ensures ascii), IsAscii-nil),
    )

pub returns-in_err-count-clause-grows : goal.returns-in_err-count-clause-grows
returns-in_err-count-clause-grows g c =
    let buffer = c.self.inside in
    let held = c.self.invariant.0 in
    let view : slice_range buffer.bytes.items buffer.start buffer.end ≡ c.args.self.now.pending = ap (λ (h : Held). h.pending) c.self.view_is in
    Grows-none _ _ _ _ c.in_err-count.ensures.consumes
    (moved_and_kept buffer.bytes c.deref_mut.result.now c.move_to_front.new.bytes c.deref_mut-2.result.now c.read.new.buf c.args.self.now.pending buffer.start buffer.end
    c.deref_mut.ensures.value c.deref_mut.ensures.len held.room c.move_to_front.auto.bytes c.move_to_front.ensures c.deref_mut-2.ensures.value c.deref_mut-2.ensures.len
    view held.within c.requires c.read.auto.buf)

pub returns-in_err-count-clause-err : goal.returns-in_err-count-clause-err
returns-in_err-count-clause-err g c =
    let buffer = c.self.inside in
    let held = c.self.invariant.0 in
    let view : slice_range buffer.bytes.items buffer.start buffer.end ≡ c.args.self.now.pending = ap (λ (h : Held). h.pending) c.self.view_is in
    OnErr-always c.from_residual.result
    (moved_and_kept buffer.bytes c.deref_mut.result.now c.move_to_front.new.bytes c.deref_mut-2.result.now c.read.new.buf c.args.self.now.pending buffer.start buffer.end
    c.deref_mut.ensures.value c.deref_mut.ensures.len held.room c.move_to_front.auto.bytes c.move_to_front.ensures c.deref_mut-2.ensures.value c.deref_mut-2.ensures.len
    view held.within c.requires c.read.auto.buf)

pub returns-in_err-count-clause-forgets : goal.returns-in_err-count-clause-forgets
returns-in_err-count-clause-forgets g c = refl

pub feed_behind-self-inside-requires-clause-none : goal.feed_behind-self-inside-requires-clause-none
feed_behind-self-inside-requires-clause-none g c =
    let buffer = c.self.inside in
    let held = c.self.invariant.0 in
    let view : slice_range buffer.bytes.items buffer.start buffer.end ≡ c.args.self.now.pending = ap (λ (h : Held). h.pending) c.self.view_is in
    unsettled-front _ c.deref-2.result.now c.args.self.now.pending (buffer.end - buffer.start) c.in_ok-count.count c.deref-2.ensures.value
    (moved_and_kept buffer.bytes c.deref_mut.result.now c.move_to_front.new.bytes c.deref_mut-2.result.now c.read.new.buf c.args.self.now.pending buffer.start buffer.end
    c.deref_mut.ensures.value c.deref_mut.ensures.len held.room c.move_to_front.auto.bytes c.move_to_front.ensures c.deref_mut-2.ensures.value c.deref_mut-2.ensures.len
    view held.within c.requires c.read.auto.buf)
    c.requires

pub returns-clause-count : goal.returns-clause-count
returns-clause-count g c =
    let buffer = c.self.inside in
    let held = c.self.invariant.0 in
    let view : slice_range buffer.bytes.items buffer.start buffer.end ≡ c.args.self.now.pending = ap (λ (h : Held). h.pending) c.self.view_is in
    ap length
    (moved_and_read buffer.bytes c.deref_mut.result.now c.move_to_front.new.bytes c.deref_mut-2.result.now c.read.new.buf c.args.self.now.pending buffer.start buffer.end c.in_ok-count.count
    c.deref_mut.ensures.value c.deref_mut.ensures.len held.room c.move_to_front.auto.bytes c.move_to_front.ensures c.deref_mut-2.ensures.value c.deref_mut-2.ensures.len
    view held.within c.requires c.read.auto.buf c.in_ok-count.ensures.at_most.0)
    ∙ length-append c.args.self.now.pending (take c.in_ok-count.count c.read.new.buf)
    ∙ ap (λ n. length c.args.self.now.pending + n) (length-take-le c.in_ok-count.count c.read.new.buf c.in_ok-count.ensures.at_most.0)

pub returns-clause-forgets : goal.returns-clause-forgets
returns-clause-forgets g c = refl

pub returns-clause-grows : goal.returns-clause-grows
returns-clause-grows g c =
    let buffer = c.self.inside in
    let held = c.self.invariant.0 in
    let view : slice_range buffer.bytes.items buffer.start buffer.end ≡ c.args.self.now.pending = ap (λ (h : Held). h.pending) c.self.view_is in
    record {
      got = take c.in_ok-count.count c.read.new.buf;
      consumed = c.in_ok-count.ensures.consumes.0;
      new_is = moved_and_read buffer.bytes c.deref_mut.result.now c.move_to_front.new.bytes c.deref_mut-2.result.now c.read.new.buf c.args.self.now.pending buffer.start buffer.end c.in_ok-count.count
          c.deref_mut.ensures.value c.deref_mut.ensures.len held.room c.move_to_front.auto.bytes c.move_to_front.ensures c.deref_mut-2.ensures.value c.deref_mut-2.ensures.len
          view held.within c.requires c.read.auto.buf c.in_ok-count.ensures.at_most.0;
    }
