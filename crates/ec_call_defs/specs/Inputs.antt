-- What a call reads before it does anything: texts, and the values of its inputs, in the order of its arguments. The first trap ends the run.
use Rattle.std.specs.Prelude.{ℕ, List, [], ◌∷◌, Option, Some, None, option_map, option_and_then}
use Rattle.ec_arguments.specs.Arguments.{TextArg, absent, word, held, Indicator, Place, Member, host, constant, descriptor}
use Rattle.ec_memory_defs.specs.Memory.{text_at}
use Rattle.ec_transfer_defs.specs.Conversion.{parameter}
use Rattle.ec_transfer_defs.specs.Hosts.{holding, indicator_type, IndicatorData, HostData}
use Rattle.ec_meaning_defs.specs.evaluation.State.{State}
use Rattle.ec_call_defs.specs.Outcomes.{Text, Field, stuck, Outcome, gives, over, next, trying, present}

-- ---- hosts, by their symbols

abbrev pub indicator_data : Indicator ℕ → Option IndicatorData
indicator_data i =
    option_map (λ kind. record { kind = kind; place = i.value; step = i.step })
    (indicator_type i.sym)

abbrev pub indicators_data : Option (Indicator ℕ) → Option (Option IndicatorData)
indicators_data None = Some None
indicators_data (Some i) = option_map Some (indicator_data i)

-- the host that a call is given, if its symbols are types
abbrev pub host_data : Place ℕ → Option HostData
host_data p =
    option_and_then
    (λ holds. option_map (λ indicator. record {
      holds = holds;
      place = p.value;
      step = p.step;
      indicator = indicator;
    }) (indicators_data p.ind)) (holding p.sym p.size)

-- ---- texts

-- a text that may be absent: its bytes run to the first zero byte
abbrev pub text_read : TextArg ℕ → State → Outcome (Option Text)
text_read absent s = gives None s
text_read (word bytes) s = gives (Some bytes) s
text_read (held p) s = next (trying (text_at s.memory p) s) (λ bytes t. gives (Some bytes) t)

-- a text that is there
abbrev pub given_read : TextArg ℕ → State → Outcome Text
given_read absent s = over stuck s
given_read (word bytes) s = gives bytes s
given_read (held p) s = trying (text_at s.memory p) s

-- ---- values

-- the value of a host: its text, or none for NULL
abbrev pub value_read : Place ℕ → State → Outcome Field
value_read p s = next (present (host_data p) s) (λ h t. trying (parameter t.memory h) t)

-- the inputs: the values, and behind them the name of a descriptor, if there is one
pub record Inputs : Type 0 where
  pub params : List Field
  pub area : Option Text

abbrev pub no_inputs : Inputs
no_inputs = record { params = []; area = None }

abbrev pub with_param : Field → Inputs → Inputs
with_param field inputs = record inputs { params = field ∷ inputs.params }

abbrev pub with_area : Text → Inputs → Inputs
with_area name inputs = record inputs { area = Some name }

abbrev pub inputs_read : List (Member ℕ) → State → Outcome Inputs
inputs_read [] s = gives no_inputs s
inputs_read (host p ∷ ms) s = next (value_read p s)
    (λ field t. next (inputs_read ms t) (λ rest u. gives (with_param field rest) u))
inputs_read (constant bytes ∷ ms) s =
    next (inputs_read ms s) (λ rest t. gives (with_param (Some bytes) rest) t)
inputs_read (descriptor name ∷ ms) s = next (given_read name s)
    (λ bytes t. next (inputs_read ms t) (λ rest u. gives (with_area bytes rest) u))

-- one value: an index or what an item is set from
abbrev pub member_read : Member ℕ → State → Outcome Field
member_read (host p) s = value_read p s
member_read (constant bytes) s = gives (Some bytes) s
member_read (descriptor name) s = over stuck s
