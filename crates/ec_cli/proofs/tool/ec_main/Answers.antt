use Rattle.std.proofs.Common.{◌∙◌}
use Rattle.ec_cli.proofs.Tools as tools
use Rattle.ec_cli.proofs.tool.ec_main.Goals as goal

pub returns-clause-wrote : goal.returns-clause-wrote
returns-clause-wrote g c = tools.wrote c.perform-done.ensures.does

pub returns-clause-written_part : goal.returns-clause-written_part
returns-clause-written_part g c = tools.written_part c.perform-done.ensures.does

pub returns-clause-written_want : goal.returns-clause-written_want
returns-clause-written_want g c = tools.written_want c.perform-done.ensures.does

pub returns-clause-unlinked : goal.returns-clause-unlinked
returns-clause-unlinked g c = tools.unlinked c.perform-done.ensures.does

pub returns-clause-talks : goal.returns-clause-talks
returns-clause-talks g c = tools.talks c.perform-done.ensures.does

pub returns-clause-links : goal.returns-clause-links
returns-clause-links g c = tools.links c.perform-done.ensures.does

pub returns-clause-dropped : goal.returns-clause-dropped
returns-clause-dropped g c = tools.dropped c.perform-done.ensures.does

pub returns-clause-logged : goal.returns-clause-logged
returns-clause-logged g c = tools.logged c.perform-done.ensures.does

pub returns-clause-unread : goal.returns-clause-unread
returns-clause-unread g c = tools.unread c.perform-done.ensures.does

pub returns-clause-untouched : goal.returns-clause-untouched
returns-clause-untouched g c = tools.untouched c.perform-done.ensures.does

pub returns-clause-within : goal.returns-clause-within
returns-clause-within g c = tools.within c.perform-done.ensures.does

pub returns-clause-usage : goal.returns-clause-usage
returns-clause-usage g c = tools.usage c.perform-done.ensures.does

pub returns-clause-own_translation : goal.returns-clause-own_translation
returns-clause-own_translation g c = tools.own_translation c.perform-done.ensures.does

pub returns-clause-source_refused : goal.returns-clause-source_refused
returns-clause-source_refused g c = tools.source_refused c.perform-done.ensures.does

pub returns-clause-source_limit : goal.returns-clause-source_limit
returns-clause-source_limit g c = tools.source_limit c.perform-done.ensures.does

pub returns-clause-own : goal.returns-clause-own
returns-clause-own g c = tools.own c.perform-done.ensures.does

pub returns-clause-crowded : goal.returns-clause-crowded
returns-clause-crowded g c = tools.crowded c.perform-done.ensures.does

pub returns-clause-refused : goal.returns-clause-refused
returns-clause-refused g c = tools.refused c.perform-done.ensures.does

pub returns-clause-limit : goal.returns-clause-limit
returns-clause-limit g c = tools.limit c.perform-done.ensures.does

pub returns-clause-read_fault : goal.returns-clause-read_fault
returns-clause-read_fault g c = tools.read_fault c.perform-done.ensures.does

pub returns-clause-write_fault : goal.returns-clause-write_fault
returns-clause-write_fault g c = tools.write_fault c.perform-done.ensures.does

pub returns-clause-decides_translation : goal.returns-clause-decides_translation
returns-clause-decides_translation g c = tools.decides_translation c.perform-done.ensures.does

pub returns-clause-read_steady : goal.returns-clause-read_steady
returns-clause-read_steady g c = tools.read_steady c.perform-done.ensures.does

pub returns-clause-write_steady : goal.returns-clause-write_steady
returns-clause-write_steady g c = tools.write_steady c.perform-done.ensures.does

pub returns-clause-whole : goal.returns-clause-whole
returns-clause-whole g c = tools.whole _ (tools.line_put c.args.words.now c.perform-done.result.ending _ _ c.perform-done.result.is_told c.put_line.result c.perform-done.ensures.told c.put_line.ensures.ok c.put_line.ensures.part) c.perform-done.ensures.does

pub returns-clause-part : goal.returns-clause-part
returns-clause-part g c = tools.part _ (tools.line_put c.args.words.now c.perform-done.result.ending _ _ c.perform-done.result.is_told c.put_line.result c.perform-done.ensures.told c.put_line.ensures.ok c.put_line.ensures.part) c.perform-done.ensures.does

pub returns-clause-want : goal.returns-clause-want
returns-clause-want g c = tools.want _ (tools.line_put c.args.words.now c.perform-done.result.ending _ _ c.perform-done.result.is_told c.put_line.result c.perform-done.ensures.told c.put_line.ensures.ok c.put_line.ensures.part) c.perform-done.ensures.does

pub returns-clause-either_fault : goal.returns-clause-either_fault
returns-clause-either_fault g c = tools.either_fault _ (tools.line_put c.args.words.now c.perform-done.result.ending _ _ c.perform-done.result.is_told c.put_line.result c.perform-done.ensures.told c.put_line.ensures.ok c.put_line.ensures.part) c.perform-done.ensures.does

pub returns-clause-decides : goal.returns-clause-decides
returns-clause-decides g c = tools.decides _ (tools.line_put c.args.words.now c.perform-done.result.ending _ _ c.perform-done.result.is_told c.put_line.result c.perform-done.ensures.told c.put_line.ensures.ok c.put_line.ensures.part) c.perform-done.ensures.does

pub returns-clause-errors_steady : goal.returns-clause-errors_steady
returns-clause-errors_steady g c = tools.errors_steady _ (tools.line_put c.args.words.now c.perform-done.result.ending _ _ c.perform-done.result.is_told c.put_line.result c.perform-done.ensures.told c.put_line.ensures.ok c.put_line.ensures.part) c.perform-done.ensures.does

pub returns-clause-last_line : goal.returns-clause-last_line
returns-clause-last_line g c = tools.last_told _ (tools.line_put c.args.words.now c.perform-done.result.ending _ _ c.perform-done.result.is_told c.put_line.result c.perform-done.ensures.told c.put_line.ensures.ok c.put_line.ensures.part) c.perform-done.ensures.does

pub returns-clause-recorded : goal.returns-clause-recorded
returns-clause-recorded g c = tools.recorded _ (tools.line_put c.args.words.now c.perform-done.result.ending _ _ c.perform-done.result.is_told c.put_line.result c.perform-done.ensures.told c.put_line.ensures.ok c.put_line.ensures.part) c.perform-done.ensures.does
    (λ e. c.put_line.ensures.untold (c.perform-done.ensures.told ∙ e))

pub returns-clause-recorded_part : goal.returns-clause-recorded_part
returns-clause-recorded_part g c = tools.recorded_part _ (tools.line_put c.args.words.now c.perform-done.result.ending _ _ c.perform-done.result.is_told c.put_line.result c.perform-done.ensures.told c.put_line.ensures.ok c.put_line.ensures.part) c.perform-done.ensures.does
