mod JoinedEvents
mod EditedLists
