use Rattle.std.proofs.Common.{◌≡◌, refl, slice_range, ◌-◌, ap, arith, length, drop, length-take}
use Rattle.sky_lines.specs.Room.{Held}
use Rattle.sky_lines.proofs.AsciiLemmas.{IsAscii-taken}
use Rattle.sky_lines.proofs.FeedLemmas.{IsFirstFeed-searched, line_taken}
use Rattle.sky_lines.proofs.buffer.Buffer.take_line.Goals as goal

pub invariant_of-self : goal.invariant_of-self
invariant_of-self c =
    let buffer = c.self.inside in
    let held = c.self.invariant.0 in
    let size = length-take (buffer.end - buffer.start) (drop buffer.start buffer.bytes.items) in
    let view : slice_range buffer.bytes.items buffer.start buffer.end ≡ c.args.self.now.pending = ap (λ (h : Held). h.pending) c.self.view_is in
    let within = c.requires.within in (
      record {
        room = held.room;
        in_order = omega (arith, ap length view, size);
        within = held.within;
        known = IsFirstFeed-searched _ _ (rw c.deref.ensures.value at c.memchr-self-inside.ensures);
        line_in_order = omega arith;
        line_within = omega (arith, ap length view, size);
      },
      λ ascii. IsAscii-taken buffer.bytes.items buffer.start buffer.end c.args.len (omega (arith, ap length view, size)) (c.self.invariant.1 ascii).0,
    )

pub returns-clause-parts : goal.returns-clause-parts
returns-clause-parts c =
    let buffer = c.self.inside in
    let view : slice_range buffer.bytes.items buffer.start buffer.end ≡ c.args.self.now.pending = ap (λ (h : Held). h.pending) c.self.view_is in
    line_taken buffer.bytes.items _ _ buffer.start buffer.end c.args.len view c.requires refl
