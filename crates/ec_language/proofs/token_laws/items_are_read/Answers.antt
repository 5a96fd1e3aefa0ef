use Rattle.ec_language.proofs.Items.{item_sound, item_complete, same_item, item_none}
use Rattle.ec_language.proofs.token_laws.items_are_read.Goals as goal

pub returns : goal.returns
returns c = record {
  found = (λ written fresh text it e. let s = item_sound written fresh text it e in (s.whole, s.is));
  there = item_complete;
  one = same_item;
  none = item_none;
}
