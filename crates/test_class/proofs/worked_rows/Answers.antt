use Rattle.test_class.proofs.Rows.{small_worked, returns_worked, loads_worked, shapes_worked, forms_worked, bounds_worked, access_worked, later_sums_worked, later_bits_worked, later_bytes_worked, later_others_worked, differences_worked, counted_sums_worked, uncounted_worked}
use Rattle.test_class.proofs.worked_rows.Goals as goal

pub returns : goal.returns
returns c = record {
  small = small_worked;
  code_that_returns = returns_worked;
  code_that_loads = loads_worked;
  shapes = shapes_worked;
  forms = forms_worked;
  bounds = bounds_worked;
  access = access_worked;
  later_sums = later_sums_worked;
  later_bits = later_bits_worked;
  later_bytes = later_bytes_worked;
  later_others = later_others_worked;
  differences = differences_worked;
  counted_sums = counted_sums_worked;
  uncounted = uncounted_worked;
}
