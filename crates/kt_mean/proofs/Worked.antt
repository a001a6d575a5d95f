-- The worked runs compute.
use Rattle.std.proofs.Common.{refl}
use Rattle.std.specs.Fmt.{digits}
use Rattle.std.specs.Int.{int_wrap}
use Rattle.kt_mean.specs.Frames.{◌>>=◌, pure, leave, over, wrong, turned}
use Rattle.kt_mean.specs.Evaluation.{take_cells, make_text, spend, read, store, write, print, limited, invoke, entered, eval}
use Rattle.kt_mean.specs.WorkedRuns.{WorkedRuns}

pub worked : WorkedRuns
unfolding int_wrap digits ◌>>=◌ pure leave over wrong turned take_cells make_text spend read store write print limited invoke entered eval
worked = record {
  sum_wraps = record { events_are = refl; ends = refl };
  left_first = record { events_are = refl; ends = refl };
  old_value_first = record { events_are = refl; ends = refl };
  val_twice = record { events_are = refl; ends = refl };
  counted_up = record { events_are = refl; ends = refl };
  steps_end = record { events_are = refl; ends = refl };
  last_call = record { events_are = refl; ends = refl };
  one_call_more = record { events_are = refl; ends = refl };
  and_stops = record { events_are = refl; ends = refl };
  and_goes_on = record { events_are = refl; ends = refl };
  or_stops = record { events_are = refl; ends = refl };
  or_goes_on = record { events_are = refl; ends = refl };
  branches_taken = record { events_are = refl; ends = refl };
  returns_from_inside = record { events_are = refl; ends = refl };
  edges_compared = record { events_are = refl; ends = refl };
  equal_values = record { events_are = refl; ends = refl };
  numbers_divided = record { events_are = refl; ends = refl };
  thrown_out_of_a_call = record { events_are = refl; ends = refl };
  thrown_before_a_store = record { events_are = refl; ends = refl };
  texts_joined = record { events_are = refl; ends = refl };
  texts_compared = record { events_are = refl; ends = refl };
  strings_filled = record { events_are = refl; ends = refl };
  demands_met = record { events_are = refl; ends = refl };
  demand_failed = record { events_are = refl; ends = refl };
  check_failed = record { events_are = refl; ends = refl };
  error_of_a_text = record { events_are = refl; ends = refl };
  error_of_a_number = record { events_are = refl; ends = refl };
  number_plus_text = record { events_are = refl; ends = refl };
  number_as_condition = record { events_are = refl; ends = refl };
}
