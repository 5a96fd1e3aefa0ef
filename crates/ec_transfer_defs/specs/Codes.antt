-- The number, the state and the text of each thing that the library finds wrong by itself. A negative number is an error, and 100 says that there is no more data.
use Rattle.std.specs.Prelude.{ℕ, ℤ, pos, neg_ℤ, List, codes}
use Rattle.ec_transfer_defs.specs.declared.finding.Finding.{Finding}
use Rattle.ec_transfer_defs.specs.declared.finding.Finding.TheVariants as found

-- what stands in sqlcode
abbrev pub code_of : Finding → ℤ
code_of found.NoData = pos 100
code_of found.TooManyTargets = neg_ℤ (pos 201)
code_of found.TooFewTargets = neg_ℤ (pos 202)
code_of found.TooManyRows = neg_ℤ (pos 203)
code_of found.NotAnInteger = neg_ℤ (pos 204)
code_of found.NotUnsigned = neg_ℤ (pos 205)
code_of found.NotABool = neg_ℤ (pos 211)
code_of found.NullWithoutIndicator = neg_ℤ (pos 213)
code_of found.NoConnection = neg_ℤ (pos 220)
code_of found.NoStatement = neg_ℤ (pos 230)
code_of found.NoDescriptor = neg_ℤ (pos 240)
code_of found.DescriptorIndex = neg_ℤ (pos 241)
code_of found.ConnectionBroken = neg_ℤ (pos 400)
code_of found.ReplyOutOfPlace = neg_ℤ (pos 400)
code_of found.ControlRefused = neg_ℤ (pos 401)
code_of found.NotConnected = neg_ℤ (pos 402)

-- what stands in sqlstate: five characters
abbrev pub state_of : Finding → List ℕ
state_of found.NoData = codes "02000"
state_of found.TooManyTargets = codes "07002"
state_of found.TooFewTargets = codes "07002"
state_of found.TooManyRows = codes "21000"
state_of found.NotAnInteger = codes "42804"
state_of found.NotUnsigned = codes "42804"
state_of found.NotABool = codes "42804"
state_of found.NullWithoutIndicator = codes "22002"
state_of found.NoConnection = codes "08003"
state_of found.NoStatement = codes "26000"
state_of found.NoDescriptor = codes "33000"
state_of found.DescriptorIndex = codes "07009"
state_of found.ConnectionBroken = codes "08006"
state_of found.ReplyOutOfPlace = codes "08P01"
state_of found.ControlRefused = codes "08007"
state_of found.NotConnected = codes "08001"

-- the text of the message, before its line
abbrev pub text_of_finding : Finding → List ℕ
text_of_finding found.NoData = codes "no data found"
text_of_finding found.TooManyTargets = codes "too many targets"
text_of_finding found.TooFewTargets = codes "too few targets"
text_of_finding found.TooManyRows = codes "too many rows"
text_of_finding found.NotAnInteger = codes "not a number of type int"
text_of_finding found.NotUnsigned = codes "not a number of an unsigned type"
text_of_finding found.NotABool = codes "not a bool"
text_of_finding found.NullWithoutIndicator = codes "null value without indicator"
text_of_finding found.NoConnection = codes "no such connection"
text_of_finding found.NoStatement = codes "no such statement"
text_of_finding found.NoDescriptor = codes "no such descriptor"
text_of_finding found.DescriptorIndex = codes "descriptor index out of range"
text_of_finding found.ConnectionBroken = codes "connection broken"
text_of_finding found.ReplyOutOfPlace = codes "reply out of place"
text_of_finding found.ControlRefused = codes "transaction control refused"
text_of_finding found.NotConnected = codes "could not connect"
