-- A name found at a place has that place, since no other one has its bytes.
use Rattle.std.proofs.Common.{◌≡◌, ◌<◌, Some, length, slice_get, refl, sym, ap, ◌∙◌, arith}
use Rattle.std.proofs.lemmas.Bool.Decides.{nat_tests}
use Rattle.std.proofs.lemmas.Option.{slice_get_read}
use Rattle.sky_names.proofs.PlaceLemmas.{same_name, place_of-Distinct}
use Rattle.sky_names.proofs.names.Names.stands_at.Goals as goal

pub returns-in-Some : goal.returns-in-Some
returns-in-Some c equal =
    let names = c.args.self.now in
    let there = c.in-Some.there.now in
    let one : there ≡ c.args.name.now = sym c.as_str.ensures ∙ same_name c.as_str.result.now c.args.name.now (sym c.eq.ensures ∙ equal) in
    let read = c.in-Some.ensures.lookup in
    let lt : c.args.place < length c.as_slice.result.now = grind (arith, nat_tests, read.0) in
    let at : slice_get c.as_slice.result.now c.args.place ≡ Some there = slice_get_read c.as_slice.result.now (length c.as_slice.result.now) c.args.place there refl lt read.1 in
    place_of-Distinct names c.args.place c.args.name.now c.as_slice.ensures.distinct
    (ap (λ ns. slice_get ns c.args.place) (sym c.as_slice.ensures.names) ∙ at ∙ ap Some one)
