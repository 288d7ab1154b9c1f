-- `page::page` meets its contract: a refused book is refused with its number and line, of an accepted one the page is given. Assumes nothing.
use Rattle.frames.proofs.BookLaws.{page_read_sound, page_read_plain}
use Rattle.page.proofs.page.Goals as goal

pub page_in-requires : goal.page_in-requires
page_in-requires c =
    (page_read_sound c.args.book.now _ c.in_ok-read_into.ensures.told, page_read_plain c.args.book.now _ c.in_ok-read_into.ensures.told)
