-- What a store of pages holds. All of it is this profile's own.
use Rattle.tagmem.specs.{declared.page_store.PageStore.PageStore, Blocks.contents_of, Granules.Granules}

-- the map of its granules
abbrev pub granules_in : PageStore → Granules
granules_in store = contents_of store.blocks.items
