use Rattle.markdown_util.proofs.ReferenceTables.{html_4_sound, html_4_sorted, html_5_sound, html_5_sorted, html_sound, html_sorted, html_5_kept, constants}
use Rattle.markdown_util.proofs.laws.tables.Goals as goal

pub returns-clause-html_4 : goal.returns-clause-html_4
returns-clause-html_4 c = html_4_sound

pub returns-clause-html_4_sorted : goal.returns-clause-html_4_sorted
returns-clause-html_4_sorted c = html_4_sorted

pub returns-clause-html_5 : goal.returns-clause-html_5
returns-clause-html_5 c = html_5_sound

pub returns-clause-html_5_sorted : goal.returns-clause-html_5_sorted
returns-clause-html_5_sorted c = html_5_sorted

pub returns-clause-html : goal.returns-clause-html
returns-clause-html c = html_sound

pub returns-clause-html_sorted : goal.returns-clause-html_sorted
returns-clause-html_sorted c = html_sorted

pub returns-clause-html_5_kept : goal.returns-clause-html_5_kept
returns-clause-html_5_kept c = html_5_kept

pub returns-clause-constants : goal.returns-clause-constants
returns-clause-constants c = constants
