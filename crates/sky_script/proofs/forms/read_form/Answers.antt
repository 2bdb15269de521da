use Rattle.std.proofs.Common.{arith}
use Rattle.sky_script.proofs.FormLemmas.{among_six, among_eleven, among_twelve, among_short, among_middle, among_long, among_longest}
use Rattle.sky_script.proofs.forms.read_form.Goals as goal

pub returns-in-6 : goal.returns-in-6
returns-in-6 c = grind (arith, among_six)

pub returns-in-11 : goal.returns-in-11
returns-in-11 c = grind (arith, among_eleven)

pub returns-in-12 : goal.returns-in-12
returns-in-12 c = grind (arith, among_twelve)

pub returns-in_default : goal.returns-in_default
returns-in_default c = grind (arith, among_short)

pub returns-in_default-2 : goal.returns-in_default-2
returns-in_default-2 c = grind (arith, among_middle)

pub returns-in_default-3 : goal.returns-in_default-3
returns-in_default-3 c = grind (arith, among_long)

pub returns-in_default-4 : goal.returns-in_default-4
returns-in_default-4 c = grind (arith, among_longest)
