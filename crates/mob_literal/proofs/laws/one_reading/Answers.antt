use Rattle.std.proofs.Common.{false}
use Rattle.mob_ratio.{specs.Order.{same}, proofs.Order.{same_exact}}
use Rattle.mob_span.specs.Flags.{same_bool, same_bool_exact}
use Rattle.mob_slice.{specs.Sameness.{same_bytes, same_bytes_exact}, specs.SteadyLaws.{steady_laws}}
use Rattle.mob_written.specs.Values.{any_value, is_whole_number, truth_values, number_values, quoted_values}
use Rattle.mob_literal.{proofs.OneReading.{one_reading}, proofs.SqlReading.{one_sql_reading}}
use Rattle.mob_literal.proofs.laws.one_reading.Goals as goal

pub returns : goal.returns
returns c = record {
  truths = λ day. one_reading day same_bool (steady_laws false same_bool same_bool_exact) truth_values false any_value;
  numbers = λ day. one_reading day same (steady_laws false same same_exact) number_values false is_whole_number;
  texts = λ day. one_reading day same_bytes (steady_laws false same_bytes same_bytes_exact) quoted_values false any_value;
  values = one_sql_reading;
}
