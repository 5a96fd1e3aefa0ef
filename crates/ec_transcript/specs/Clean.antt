-- Clean logs: each refusal's state is five digits, upper case letters or `?`.
use Rattle.std.specs.Prelude.{ℕ, ◌&&◌, ◌||◌, ◌==◌, nat_le, Bool, if◌then◌else◌, List, map}
use Rattle.ec_link.specs.declared.reply.Reply.{Reply}
use Rattle.ec_link.specs.declared.reply.Reply.TheVariants.{Refused}
use Rattle.ec_link.specs.declared.logged.Logged.{Logged}

-- a byte of a clean state: a digit, an upper case letter or `?`
abbrev pub is_clean : ℕ → Bool
is_clean b = (nat_le 48 b && nat_le b 57) || ((nat_le 65 b && nat_le b 90) || b == 63)

-- the byte that a transcript has for a byte of a state: `?` for each that isn't clean
abbrev pub clean_byte : ℕ → ℕ
clean_byte b = if is_clean b then b else 63

-- a reply, with `?` for each other byte of a refusal's state
abbrev pub clean_reply : Reply → Reply
clean_reply (Refused state message t) = Refused (record { 0 = map clean_byte state.0 }) message t
clean_reply r = r

-- an exchange with its reply made clean
abbrev pub clean_exchange : Logged → Logged
clean_exchange x = record x { reply = clean_reply x.reply }

-- a log with each of its replies made clean
abbrev pub clean : List Logged → List Logged
clean log = map clean_exchange log
