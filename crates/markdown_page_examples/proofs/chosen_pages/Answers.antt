-- What CommonMark's examples do not show of HTML: both sides of each row compute to one list. Written by tools/pages.py.
use Rattle.std.proofs.Common.{refl}
use Rattle.markdown_page_examples.proofs.PageComputed.{page_computed}
use Rattle.markdown_page_examples.specs.ChosenPages.{LineFeeds, ListTags, CodeTexts, HtmlTexts, PageDefinitions, PageMarks, PageRules, LineEndings, SafePages, StandardChoices}
use Rattle.markdown_page_examples.specs.ChosenPages.{PageStrikethrough, PageBareUrls, PageTasks, PageMath, PageMathFences, PageFrontMatter, PagesOfTheCrate, PageCalls, AllOptions}
use Rattle.markdown_page_examples.proofs.chosen_pages.Goals as goal

line_feeds : LineFeeds
unfolding page_computed
line_feeds = (refl, refl, refl, refl, refl, refl, refl, refl, refl, refl, refl, refl)

list_tags : ListTags
unfolding page_computed
list_tags = (refl, refl, refl, refl, refl, refl, refl, refl, refl, refl, refl, refl, refl, refl)

code_texts : CodeTexts
unfolding page_computed
code_texts = (refl, refl, refl, refl, refl, refl, refl, refl, refl, refl, refl)

html_texts : HtmlTexts
unfolding page_computed
html_texts = (refl, refl, refl)

page_definitions : PageDefinitions
unfolding page_computed
page_definitions = (refl, refl, refl, refl, refl)

page_marks : PageMarks
unfolding page_computed
page_marks = (refl, refl)

page_rules : PageRules
unfolding page_computed
page_rules = (refl, refl)

line_endings : LineEndings
unfolding page_computed
line_endings = (refl, refl, refl, refl, refl, refl, refl, refl, refl, refl, refl)

safe_pages : SafePages
unfolding page_computed
safe_pages = (refl, refl, refl, refl, refl, refl)

standard_choices : StandardChoices
unfolding page_computed
standard_choices = (refl, refl, refl, refl, refl, refl, refl, refl, refl, refl)

page_strikethrough : PageStrikethrough
unfolding page_computed
page_strikethrough = (refl, refl, refl, refl, refl)

page_bare_urls : PageBareUrls
unfolding page_computed
page_bare_urls = (refl, refl, refl, refl, refl, refl, refl, refl)

page_tasks : PageTasks
unfolding page_computed
page_tasks = (refl, refl, refl, refl, refl, refl, refl, refl, refl, refl, refl, refl, refl, refl, refl, refl, refl, refl, refl, refl)

page_math : PageMath
unfolding page_computed
page_math = (refl, refl, refl, refl)

page_math_fences : PageMathFences
unfolding page_computed
page_math_fences = (refl, refl, refl, refl, refl, refl, refl, refl, refl, refl, refl, refl, refl, refl, refl, refl, refl, refl, refl, refl, refl, refl, refl)

page_front_matter : PageFrontMatter
unfolding page_computed
page_front_matter = (refl, refl, refl, refl, refl, refl, refl, refl, refl, refl, refl, refl, refl, refl, refl, refl, refl, refl, refl, refl, refl, refl, refl, refl, refl)

pages_of_the_crate : PagesOfTheCrate
unfolding page_computed
pages_of_the_crate = (refl, refl, refl, refl)

page_calls : PageCalls
unfolding page_computed
page_calls = (refl, refl)

all_options : AllOptions
unfolding page_computed
all_options = (refl)

pub returns : goal.returns
returns c = (line_feeds, list_tags, code_texts, html_texts, page_definitions, page_marks, page_rules, line_endings, safe_pages, standard_choices, page_strikethrough, page_bare_urls, page_tasks, page_math, page_math_fences, page_front_matter, pages_of_the_crate, page_calls, all_options)
