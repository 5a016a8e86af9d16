use Rattle.markdown_page.proofs.lists.Walk.put_row.Goals as goal

pub returns-in-ContainerAt-clause-walked : goal.returns-in-ContainerAt-clause-walked
returns-in-ContainerAt-clause-walked c = rw c.in-ContainerAt.is c.put_container.ensures.walked
