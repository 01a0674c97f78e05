pub mod PatchPainting
