mod FilledSlots
mod SlotNotes
